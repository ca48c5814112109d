use Rattle.std.proofs.Common.{◌≡◌, reverse, sym, ap, ◌∙◌, subst}
use Rattle.stores.specs.Rows.{Unaltered}
use Rattle.model.specs.Meaning.{means as model-means}
use Rattle.marking.specs.Marks.{Sound}
use Rattle.marking.proofs.Marked.{enter_well}
use Rattle.marking.proofs.MarkingSpace.enter.Goals as goal

pub returns-clause-does : goal.returns-clause-does
returns-clause-does g c = λ sd.
    let s = c.args.self.now in
    let b = c.begin.new.self in
    let D = g.K.Kinds.demands in
    let tm = g.T.DomainTable.means in
    let S = g.T.DomainTable.sound in
    let cs = reverse s.choices.items in
    let h = c.begin.ensures.does sd.part in
    enter_well D (model-means s.base.model.now) (S s.base.table) (S b.table) (tm s.base.table) (tm b.table) (model-means b.model.now) s.base.top b.top cs c.begin.result
    (g.T.DomainTable.bounded s.base.table sd.part) sd h.1 (sym c.is_some.ensures ∙ c.if-is_some.false) (ap (λ q. model-means q.now) c.begin.ensures.model) h.0
    (λ e q. let same : b ≡ s.base = subst (λ r. Unaltered r s.base b) q (c.begin.ensures.refused sd.part) in
    subst (λ z. Sound (S z.table) D (model-means z.model.now) (tm z.table) z.top cs) (sym same) sd)
