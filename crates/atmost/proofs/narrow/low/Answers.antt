use Rattle.std.proofs.Common.{◌<◌, ℤ, pos, Ok, sym, ◌∙◌, subst, w16, SFits, rules}
use Rattle.atmost.specs.Trims.{End, Small}
use lib.Signed.{lt_z}
use Rattle.std.proofs.lemmas.Int.{to_z-of_z}
use Rattle.atmost.proofs.Parts.{part_small, product, low_end, some_same}
use Rattle.atmost.proofs.narrow.low.Goals as goal

pub returns-in-Ok-Some : goal.returns-in-Ok-Some
returns-in-Ok-Some g c =
    let a = c.args.term.coefficient in
    let v = c.in-Ok-Some.v in
    let f : SFits w16 a = search rules in
    let l : v < 256 = search rules in
    let is = product a c.from.result c.from-in-Ok-Some.result v f l c.from.ensures c.from-in-Ok-Some.ensures in
    record {
      value = λ sd.
          let p = low_end (g.T.DomainTable.means c.args.table.now) c.args.term.variable a c.in-Ok-Some.field-0 v (g.T.DomainTable.bounded c.args.table.now sd) c.in-Ok-Some.field-0-is (subst (λ (y : ℤ). End (g.T.DomainTable.means c.args.table.now) c.args.term.variable (lt_z y (pos 0)) (Ok c.in-Ok-Some.field-0)) (to_z-of_z w16 a f) (c.in-Ok-Some.ensures sd)) in
          ((v, p.0), is ∙ p.1);
      bound = λ z e. subst Small (sym is ∙ some_same _ z e) (part_small a v f l);
    }
