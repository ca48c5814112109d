use Rattle.std.proofs.Common.{◌*◌, ◌%◌, ◌^◌, ◌||◌, ap, ◌∙◌, arith}
use Rattle.std.proofs.lemmas.Nat.{one_shl}
use Rattle.bits.specs.Bit.{has}
use Rattle.bits.proofs.Digits.{has-or, has-pow}
use Rattle.bits.proofs.Set.with.Goals as goal

pub returns-then-v-lt64 : goal.returns-then-v-lt64
returns-then-v-lt64 c =
    let n = c.args.self.word in
    let v = c.args.v in
    record {
      within = λ l u. has-or n ((1 * 2 ^ v) % 2 ^ 64) u ∙ ap (λ p. has n u || p) (ap (λ m. has m u) (one_shl v 64 l) ∙ has-pow v u);
      past = λ l. absurd (omega (arith, c.if-v-lt64.true));
    }
