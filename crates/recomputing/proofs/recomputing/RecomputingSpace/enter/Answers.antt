use Rattle.std.proofs.Common.{◌≡◌, reverse, sym, ap, ◌∙◌, subst}
use Rattle.stores.specs.Rows.{Unaltered}
use Rattle.model.specs.Meaning.{means as model-means}
use Rattle.recomputing.specs.Recomputed.{Sound}
use Rattle.recomputing.proofs.Recomputes.{enter_well}
use Rattle.recomputing.proofs.recomputing.RecomputingSpace.enter.Goals as goal

pub returns-clause-does : goal.returns-clause-does
returns-clause-does g c = λ sd.
    let s = c.args.self.now in
    let b = c.begin.new.self in
    let D = g.K.Kinds.demands in
    let tm = g.T.DomainTable.means in
    let S = g.T.DomainTable.sound in
    let ss = reverse s.path in
    let h = c.begin.ensures.does sd.part in
    enter_well D (model-means s.base.model.now) (S s.base.table) (tm s.base.table) s.takes ss (S b.table) (tm b.table) (model-means b.model.now) s.base.top b.top c.begin.result
    (g.T.DomainTable.bounded s.base.table sd.part) sd h.1 (sym c.is_some.ensures ∙ c.if-is_some.false) (ap (λ q. model-means q.now) c.begin.ensures.model) h.0
    (λ e q. let same : b ≡ s.base = subst (λ r. Unaltered r s.base b) q (c.begin.ensures.refused sd.part) in
    subst (λ z. Sound (S z.table) D (model-means z.model.now) (tm z.table) z.top s.takes ss) (sym same) sd)
