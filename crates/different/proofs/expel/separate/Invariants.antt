use Rattle.std.proofs.Common.{◌≡◌, ℕ, ◌<◌, true}
use Rattle.bits.specs.Bit.{has}
use Rattle.model.specs.Reading.{among}
use Rattle.model.specs.Values.{different}
use Rattle.kinds.specs.Demands.{demand_of}
use Rattle.kinds.specs.Passes.{Alive}
use Rattle.different.specs.Different.{stable, meets}
use Rattle.different.proofs.Steps.{Main, Seen}
use Rattle.different.proofs.expel.separate.Given as goal

abbrev pub invariant-loop-x : goal.invariant-loop-x
invariant-loop-x g l = g.T.DomainTable.sound l.table → Seen (g.T.DomainTable.means l.table) l.listed l.x-index (has l.once.word) (has l.twice.word)

abbrev pub invariant-loop-x-2 : goal.invariant-loop-x-2
invariant-loop-x-2 g l =
    let means = g.T.DomainTable.means in
    let s = means l.initial.table in
    g.T.DomainTable.sound l.initial.table →
    ((n : ℕ) → ((x : ℕ) → among x l.listed ≡ true → x < n) → ((x : ℕ) → among x l.listed ≡ true → Alive s.domains x) →
    Main n (demand_of stable meets s.width (different l.listed)) s l.listed l.x-index l.set (means l.table)) × g.T.DomainTable.sound l.table
