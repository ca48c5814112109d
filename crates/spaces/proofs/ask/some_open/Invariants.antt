use Rattle.std.proofs.Common.{◌≡◌, false}
use Rattle.spaces.specs.Calls.{has_open}
use Rattle.spaces.proofs.ask.some_open.Given as goal

abbrev pub invariant-loop-x : goal.invariant-loop-x
invariant-loop-x g l = g.T.DomainTable.sound l.table → has_open l.x (g.T.DomainTable.means l.table).width (g.T.DomainTable.means l.table).domains ≡ false
