use Rattle.std.proofs.Common.{◌≡◌, ℕ, ◌<◌, true}
use Rattle.tables.specs.States.{TableState}
use Rattle.kinds.specs.Demands.{Demand}
use Rattle.kinds.specs.Sofar.{Sofar}
use Rattle.atmost.specs.Trims.{Barred}
use Rattle.atmost.proofs.Steps.{Going}
use Rattle.atmost.proofs.narrow.trim.Given as goal

abbrev pub invariant-loop-turn : goal.invariant-loop-turn
invariant-loop-turn g l =
    let means = g.T.DomainTable.means in
    g.T.DomainTable.sound l.initial.table →
    ((n : ℕ) (A : Demand) (s : TableState) →
    A.names l.term.variable ≡ true → l.term.variable < (means l.initial.table).variables →
    Barred n A s l.term l.room → Sofar n A s l.initial.found (means l.initial.table) →
    Going n A s l.term (means l.initial.table) l._turn l.found (means l.table)) × g.T.DomainTable.sound l.table
