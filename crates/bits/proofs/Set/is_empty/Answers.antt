use Rattle.std.proofs.Common.{ap, ◌∙◌}
use Rattle.std.proofs.lemmas.Bool.{eqb-true, eqb-false}
use Rattle.bits.specs.Bit.{has}
use Rattle.bits.proofs.Digits.{has-zero, some_member}
use Rattle.bits.proofs.Set.is_empty.Goals as goal

pub returns : goal.returns
returns c =
    let n = c.args.self.word in
    record {
      none = λ e u. ap (λ m. has m u) (eqb-true n 0 e) ∙ has-zero u;
      some = λ e. some_member n (eqb-false n 0 e);
    }
