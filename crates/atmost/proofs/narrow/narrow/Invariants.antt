use Rattle.std.proofs.Common.{◌≡◌, ℕ, ◌<◌, true}
use Rattle.kinds.specs.Passes.{Alive}
use Rattle.atmost.specs.Linear.{listed}
use Rattle.atmost.proofs.Steps.{Main}
use Rattle.atmost.proofs.narrow.narrow.Given as goal

abbrev pub invariant-loop-term : goal.invariant-loop-term
invariant-loop-term g l =
    let means = g.T.DomainTable.means in
    let s = means l.initial.table in
    g.T.DomainTable.sound l.initial.table →
    ((n : ℕ) → ((x : ℕ) → listed l.terms x ≡ true → x < n) → ((x : ℕ) → listed l.terms x ≡ true → Alive s.domains x) →
    Main n l.terms l.bound s l.term-index l.set (means l.table)) × g.T.DomainTable.sound l.table
