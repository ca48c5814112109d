use Rattle.std.proofs.Common.{◌^◌, ◌<◌, rules}
use Rattle.bits.proofs.Digits.{member_below}
use Rattle.bits.proofs.Listed.{members-none, members-first}
use Rattle.bits.proofs.Set.split.Goals as goal

pub returns-in_err-least : goal.returns-in_err-least
returns-in_err-least c = rw c.from_residual.ensures (members-none c.args.self.word c.in_err-least.ensures)

pub returns : goal.returns
returns c =
    let w = c.args.self.word in
    let v = c.in_ok-least.field-0 in
    let h = c.in_ok-least.ensures in
    let fits : w < 2 ^ 64 = search rules in
    members-first w c.without.result.word v (member_below 64 w v fits h.0) h.0 h.1 c.without.ensures
