use Rattle.std.proofs.Common.{◌≡◌, ℕ, true, take}
use Rattle.atmost.specs.Linear.{lows, listed}
use Rattle.atmost.specs.Trims.{SmallSum}
use Rattle.atmost.proofs.narrow.total.Given as goal

abbrev pub invariant-loop-term : goal.invariant-loop-term
invariant-loop-term g l =
    let s = g.T.DomainTable.means l.table in
    SmallSum l.term-index l.sum × (g.T.DomainTable.sound l.table →
    ((x : ℕ) → listed (take l.term-index l.terms) x ≡ true → (v : ℕ) × (s.domains x v ≡ true)) × (l.sum ≡ lows s.width s.domains (take l.term-index l.terms)))
