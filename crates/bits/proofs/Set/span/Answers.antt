use Rattle.std.proofs.Common.{◌≡◌, ℕ, ◌-◌, ◌^◌, ◌<◌, min, false, not, ◌&&◌, ltb, leb, sym, ap, ◌∙◌, ap₂, ⊎_elim, arith, rules}
use Rattle.std.proofs.lemmas.Bool.{cases_lt, and_right, le-ltb, lt-ltb, le-leb, lt-leb}
use Rattle.bits.specs.Bit.{has}
use Rattle.bits.proofs.Digits.{has-and, has-not}
use Rattle.bits.proofs.Set.span.Goals as goal

-- of the numbers below k, those that are not below low
not-below : (low u k : ℕ) → u < k → not (ltb u (min low k)) ≡ leb low u
not-below low u k l = ⊎_elim
    (λ h. ap not (lt-ltb u (min low k) (omega arith)) ∙ sym (lt-leb low u h))
    (λ h. ap not (le-ltb u (min low k) (omega arith)) ∙ sym (le-leb low u h))
    (cases_lt u low)

pub returns : goal.returns
returns c = λ u.
    let low = c.args.low in
    let high = c.args.high in
    let a = c.below.result in
    let b = c.below-2.result in
    let fits : a < 2 ^ 64 = search rules in
    has-and (2 ^ 64 - 1 - a) b u ∙ ⊎_elim
    (λ l. ap₂ ◌&&◌ (has-not 64 a u fits l ∙ ap not (c.below.ensures u) ∙ not-below low u 64 l) (c.below-2.ensures u))
    (λ l.
    let out : ltb u (min high 64) ≡ false = le-ltb u (min high 64) (omega arith) in
    and_right (has (2 ^ 64 - 1 - a) u) (has b u) (c.below-2.ensures u ∙ out) ∙ sym (and_right (leb low u) (ltb u (min high 64)) out))
    (cases_lt u 64)
