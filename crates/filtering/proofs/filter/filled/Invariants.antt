use Rattle.std.proofs.Common.{ℕ, ◌<◌}
use Rattle.kinds.specs.Passes.{Alive}
use Rattle.filtering.proofs.filter.filled.Given as goal

abbrev pub invariant-loop-x : goal.invariant-loop-x
invariant-loop-x g l = g.T.DomainTable.sound l.table → (k : ℕ) → k < l.x → Alive (g.T.DomainTable.means l.table).domains k
