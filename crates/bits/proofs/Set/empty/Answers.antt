use Rattle.bits.proofs.Digits.{has-zero}
use Rattle.bits.proofs.Set.empty.Goals as goal

pub returns : goal.returns
returns c = has-zero
