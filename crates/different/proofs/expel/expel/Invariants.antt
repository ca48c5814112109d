use Rattle.std.proofs.Common.{ℕ, ◌<◌}
use Rattle.tables.specs.States.{TableState}
use Rattle.kinds.specs.Demands.{Demand}
use Rattle.kinds.specs.Sofar.{Sofar}
use Rattle.different.specs.Expels.{Lists, Barred}
use Rattle.different.proofs.Steps.{Going}
use Rattle.different.proofs.expel.expel.Given as goal

abbrev pub invariant-loop-y : goal.invariant-loop-y
invariant-loop-y g l =
    let means = g.T.DomainTable.means in
    g.T.DomainTable.sound l.initial.table →
    ((n : ℕ) (A : Demand) (s : TableState) → Lists A l.listed (means l.initial.table) → l.v < (means l.initial.table).width →
    Barred n A s l.listed l.x l.v → Sofar n A s l.initial.found (means l.initial.table) →
    Going n A s l.listed l.x l.v (means l.initial.table) l.y-index l.found (means l.table)) × g.T.DomainTable.sound l.table
