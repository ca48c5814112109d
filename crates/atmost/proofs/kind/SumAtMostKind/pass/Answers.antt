use Rattle.std.proofs.Common.{◌≡◌, length, ℤ, Some, Option, sym, subst, arith, w32, SFits, rules}
use Rattle.std.specs.List.{slice_get}
use Rattle.std.proofs.lemmas.Int.{to_z-of_z}
use Rattle.model.specs.Values.{Record, at_most}
use Rattle.model.specs.Meaning.{means, windows, records}
use Rattle.model.specs.Promises.{Shows}
use Rattle.model.specs.declared.model.calls.Constraint.{Constraint}
use Rattle.kinds.specs.Demands.{demanded, with_kind, no_demands}
use Rattle.kinds.specs.Passes.{Passes}
use Rattle.kinds.proofs.Validity.{named}
use Rattle.atmost.specs.Linear.{stable, meets}
use Rattle.atmost.specs.Laws.{map-length}
use Rattle.atmost.proofs.kind.SumAtMostKind.pass.Goals as goal

pub narrow-requires : goal.narrow-requires
narrow-requires g c =
    let m = c.args.model.now in
    let ts = c.in-Some-AtMost.terms.now in
    let is : slice_get (records m) c.args.item ≡ Some (at_most c.in-Some-AtMost.bound ts) = subst (λ (z : Constraint). Shows (records m) c.args.item (Some z)) c.in-Some-AtMost.field-0-is c.in-Some-AtMost.ensures in
    omega (arith, (named (means m) m.valid c.args.item (at_most c.in-Some-AtMost.bound ts) is).few, map-length ts)

pub returns-in-Some-AtMost : goal.returns-in-Some-AtMost
returns-in-Some-AtMost g c = λ sd.
    let m = c.args.model.now in
    let b = c.in-Some-AtMost.bound in
    let ts = c.in-Some-AtMost.terms.now in
    let s = g.T.DomainTable.means c.args.table.now in
    let u = g.T.DomainTable.means c.narrow.new.table in
    let r = c.narrow.result in
    let is : slice_get (records m) c.args.item ≡ Some (at_most b ts) = subst (λ (z : Constraint). Shows (records m) c.args.item (Some z)) c.in-Some-AtMost.field-0-is c.in-Some-AtMost.ensures in
    let did = c.narrow.ensures sd in
    let fits : SFits w32 b = search rules in
    let n = length (windows m) in
    let ran = did.0 n (named (means m) m.valid c.args.item (at_most b ts) is).below in (
      subst (λ (o : Option Record). Passes n (demanded (with_kind 2 stable meets no_demands) s.width o) s u r) (sym is)
          (subst (λ (z : ℤ). Passes n (demanded (with_kind 2 stable meets no_demands) s.width (Some (at_most z ts))) s u r) (to_z-of_z w32 b fits) ran),
      did.1,
    )
