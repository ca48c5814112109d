use Rattle.std.proofs.Common.{sym, ◌∙◌, arith}
use Rattle.model.specs.Drafted.{drafted}
use Rattle.model.proofs.Models.{names-past}
use Rattle.model.proofs.model.Model.naming.Goals as goal

pub returns-then-x-len : goal.returns-then-x-len
returns-then-x-len c i =
    let m = c.args.self.now in
    c.empty.ensures i ∙ sym (names-past (drafted m.draft) c.args.x i m.valid (omega (arith, c.len.ensures.value, c.if-x-len.true)))
