use Rattle.std.proofs.Common.{reverse, sym, ap, ◌∙◌}
use Rattle.std.specs.Option.{is_some}
use Rattle.model.specs.Meaning.{means as model-means}
use Rattle.marking.proofs.Marked.{nodes-marked}
use Rattle.marking.proofs.MarkingSpace.nodes.Goals as goal

pub returns-in-Some : goal.returns-in-Some
returns-in-Some g c = λ sd.
    let s = c.args.self.now in
    c.marks.ensures sd.part ∙ sym (nodes-marked g.K.Kinds.demands (model-means s.base.model.now) (g.T.DomainTable.means s.base.table) s.base.top (reverse s.choices.items) (ap is_some c.in-Some.is) sd.runs)
