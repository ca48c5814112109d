use Rattle.std.proofs.Common.{◌+◌, pos, ap, length, arith}
use Rattle.std.proofs.lemmas.Bool.{leb-true}
use Rattle.model.specs.declared.draft.Stored.TheVariants.{AtMost, Different}
use Rattle.model.proofs.Models.{stored_placed}
use Rattle.model.proofs.model.Model.constraint.Goals as goal

pub part-requires : goal.part-requires
part-requires c =
    let d = c.args.self.now.draft in
    let a = c.in-AtMost in
    let p = stored_placed d c.args.i (omega (arith, c.if-i-len.false, c.len.ensures.value)) _ c.deref.ensures.0 (AtMost a.bound a.from a.count) (AtMost (pos 0) 0 0) a.is in
    omega (arith, leb-true (a.from + a.count) (length d.terms.items) p, ap length c.deref-in-AtMost.ensures.0)

pub part-requires-in-Different : goal.part-requires-in-Different
part-requires-in-Different c =
    let d = c.args.self.now.draft in
    let a = c.in-Different in
    let p = stored_placed d c.args.i (omega (arith, c.if-i-len.false, c.len.ensures.value)) _ c.deref.ensures.0 (Different a.from a.count) (AtMost (pos 0) 0 0) a.is in
    omega (arith, leb-true (a.from + a.count) (length d.distinct.items) p, ap length c.deref-in-Different.ensures.0)
