use Rattle.std.proofs.Common.{◌*◌, ◌%◌, ◌^◌, ◌<◌, ◌&&◌, eqb, sym, ap, ◌∙◌, ⊎_elim, arith, rules}
use Rattle.std.proofs.lemmas.Nat.{one_shl}
use Rattle.std.proofs.lemmas.Bool.{cases_lt, and_left, and_right, ne_eqb}
use Rattle.bits.specs.Bit.{has}
use Rattle.bits.proofs.Digits.{has-and, has-pow, has-past}
use Rattle.bits.proofs.Set.only.Goals as goal

pub returns-then-v-lt64 : goal.returns-then-v-lt64
returns-then-v-lt64 c = λ u.
    let n = c.args.self.word in
    let v = c.args.v in
    has-and n ((1 * 2 ^ v) % 2 ^ 64) u ∙ ap (λ p. has n u && p) (ap (λ m. has m u) (one_shl v 64 c.if-v-lt64.true) ∙ has-pow v u)

pub returns-else-v-lt64 : goal.returns-else-v-lt64
returns-else-v-lt64 c = λ u.
    let n = c.args.self.word in
    let v = c.args.v in
    let fits : n < 2 ^ 64 = search rules in
    c.empty.ensures u ∙ sym (⊎_elim
    (λ l. and_right (has n u) (eqb u v) (ne_eqb u v (λ e. omega (arith, c.if-v-lt64.false))))
    (λ l. and_left (has n u) (eqb u v) (has-past 64 n u fits l))
    (cases_lt u 64))
