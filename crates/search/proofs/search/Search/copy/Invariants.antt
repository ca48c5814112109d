use Rattle.search.proofs.Copying.{CopiedTo}
use Rattle.search.proofs.search.Search.copy.Given as goal

abbrev pub invariant-loop-x : goal.invariant-loop-x
invariant-loop-x g l = g.P.Space.sound l.self.space → CopiedTo (g.P.Space.means l.self.space) l.initial.row l.x l.row
