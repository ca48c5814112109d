use Rattle.search.proofs.Preferring.{ScannedOn}
use Rattle.search.proofs.rule.preferred.Given as goal

abbrev pub invariant-loop-x : goal.invariant-loop-x
invariant-loop-x g l = g.P.Space.sound l.space → ScannedOn (g.P.Space.means l.space) l.preference l.x l.best
