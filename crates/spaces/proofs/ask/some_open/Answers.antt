use Rattle.std.proofs.Common.{sym}
use Rattle.spaces.proofs.Opens.{found-one}
use Rattle.spaces.proofs.ask.some_open.Goals as goal

pub returns-then-size-gt1 : goal.returns-then-size-gt1
returns-then-size-gt1 g c = λ sd.
    let s = g.T.DomainTable.means c.args.table.now in
    let k = c.in-Ok.ensures sd in
    sym (found-one s.domains s.variables s.width c.loop-x.x c.in-Ok.size k.0 k.1 c.if-size-gt1.true)
