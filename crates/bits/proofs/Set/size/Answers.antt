use Rattle.std.proofs.Common.{◌^◌, ◌<◌, rules}
use Rattle.bits.proofs.Digits.{ones_counted}
use Rattle.bits.proofs.Set.size.Goals as goal

pub returns : goal.returns
returns c =
    let fits : c.args.self.word < 2 ^ 64 = search rules in
    ones_counted 64 c.args.self.word fits
