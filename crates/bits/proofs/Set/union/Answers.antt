use Rattle.bits.proofs.Digits.{has-or}
use Rattle.bits.proofs.Set.union.Goals as goal

pub returns : goal.returns
returns c = has-or c.args.self.word c.args.other.word
