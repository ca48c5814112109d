use Rattle.std.proofs.Common.{◌^◌, ◌<◌, ap, ◌∙◌, rules}
use Rattle.bits.specs.Bit.{has}
use Rattle.bits.proofs.Digits.{has-zero, leading_is_greatest}
use Rattle.bits.proofs.Set.greatest.Goals as goal

pub returns-then-self-eq0 : goal.returns-then-self-eq0
returns-then-self-eq0 c = λ u. ap (λ n. has n u) c.if-self-eq0.true ∙ has-zero u

pub returns : goal.returns
returns c =
    let fits : c.args.self.word < 2 ^ 64 = search rules in
    leading_is_greatest 64 c.args.self.word c.if-self-eq0.false fits
