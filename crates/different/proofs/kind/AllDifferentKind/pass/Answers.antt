use Rattle.std.proofs.Common.{◌≡◌, length, Some, Option, sym, subst}
use Rattle.model.specs.Values.{Record, different}
use Rattle.model.specs.Meaning.{means, windows, records}
use Rattle.std.specs.List.{slice_get}
use Rattle.model.specs.Promises.{Shows}
use Rattle.model.specs.declared.model.calls.Constraint.{Constraint}
use Rattle.kinds.specs.Demands.{demanded, with_kind, no_demands}
use Rattle.kinds.specs.Passes.{Passes}
use Rattle.kinds.proofs.Validity.{named}
use Rattle.different.specs.Different.{stable, meets}
use Rattle.different.proofs.kind.AllDifferentKind.pass.Goals as goal

pub returns-in-Some-Different : goal.returns-in-Some-Different
returns-in-Some-Different g c = λ sd.
    let m = c.args.model.now in
    let xs = c.in-Some-Different.variables.now in
    let s = g.T.DomainTable.means c.args.table.now in
    let u = g.T.DomainTable.means c.separate.new.table in
    let is : slice_get (records m) c.args.item ≡ Some (different xs) = subst (λ (z : Constraint). Shows (records m) c.args.item (Some z)) c.in-Some-Different.field-0-is c.in-Some-Different.ensures in
    let did = c.separate.ensures sd in (
      subst (λ (o : Option Record). Passes (length (windows m)) (demanded (with_kind 3 stable meets no_demands) s.width o) s u c.separate.result) (sym is)
          (did.0 (length (windows m)) (named (means m) m.valid c.args.item (different xs) is).below),
      did.1,
    )
