use Rattle.std.proofs.Common.{length, subst}
use Rattle.std.specs.List.{slice_get}
use Rattle.model.specs.Meaning.{windows, records}
use Rattle.kinds.specs.Demands.{Demand}
use Rattle.kinds.specs.Passes.{Passes}
use Rattle.bank.proofs.Standards.{standard-demanded}
use Rattle.bank.proofs.standard.pass.Goals as goal

pub returns : goal.returns
returns g c = λ sd.
    let m = c.args.model.now in
    let s = g.T.DomainTable.means c.args.table.now in
    let did = c.pass.ensures sd in
    (subst (λ (A : Demand). Passes (length (windows m)) A s (g.T.DomainTable.means c.pass.new.table) c.pass.result) (standard-demanded s.width (slice_get (records m) c.args.item)) did.0, did.1)
