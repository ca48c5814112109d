use Rattle.std.proofs.Common.{◌≡◌, ◌-◌, ◌^◌, ◌<◌, Bool, true, false, not, ◌&&◌, eqb, sym, refl, ap, ◌∙◌, ⊎_elim, arith, rules}
use lib.Bits.{bit_and}
use Rattle.std.proofs.lemmas.Nat.{one_shl}
use Rattle.std.proofs.lemmas.Bool.{cases_lt, and_left, ne_eqb}
use Rattle.bits.specs.Bit.{has}
use Rattle.bits.proofs.Digits.{has_cleared, has-past}
use Rattle.bits.proofs.Set.without.Goals as goal

pub returns-then-v-lt64 : goal.returns-then-v-lt64
returns-then-v-lt64 c = λ u.
    let n = c.args.self.word in
    let v = c.args.v in
    let fits : n < 2 ^ 64 = search rules in
    ap (λ m. has (bit_and n (2 ^ 64 - 1 - m)) u) (one_shl v 64 c.if-v-lt64.true) ∙ has_cleared 64 n v u fits c.if-v-lt64.true

and_true : (b : Bool) → b ≡ (b && true)
and_true true = refl
and_true false = refl

pub returns-else-v-lt64 : goal.returns-else-v-lt64
returns-else-v-lt64 c = λ u.
    let n = c.args.self.word in
    let v = c.args.v in
    let fits : n < 2 ^ 64 = search rules in
    ⊎_elim
    (λ l. and_true (has n u) ∙ ap (λ p. has n u && not p) (sym (ne_eqb u v (λ e. omega (arith, c.if-v-lt64.false)))))
    (λ l. let e = has-past 64 n u fits l in e ∙ sym (and_left (has n u) (not (eqb u v)) e))
    (cases_lt u 64)
