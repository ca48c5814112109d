use Rattle.std.proofs.Common.{◌≡◌, ◌-◌, min, ltb, ap, ◌∙◌, arith}
use Rattle.std.proofs.lemmas.Nat.{one_shl}
use Rattle.bits.specs.Bit.{has}
use Rattle.bits.proofs.Digits.{has_ones}
use Rattle.bits.proofs.below.Goals as goal

pub returns-then-k-lt64 : goal.returns-then-k-lt64
returns-then-k-lt64 c = λ u.
    let k = c.args.k in
    let e : k ≡ min k 64 = omega (arith, c.if-k-lt64.true) in
    ap (λ m. has (m - 1) u) (one_shl k 64 c.if-k-lt64.true) ∙ has_ones k u ∙ ap (ltb u) e

pub returns-else-k-lt64 : goal.returns-else-k-lt64
returns-else-k-lt64 c = λ u.
    let k = c.args.k in
    let e : 64 ≡ min k 64 = omega (arith, c.if-k-lt64.false) in
    has_ones 64 u ∙ ap (ltb u) e
