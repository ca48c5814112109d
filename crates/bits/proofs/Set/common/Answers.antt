use Rattle.bits.proofs.Digits.{has-and}
use Rattle.bits.proofs.Set.common.Goals as goal

pub returns : goal.returns
returns c = has-and c.args.self.word c.args.other.word
