use Rattle.std.proofs.Common.{reverse, sym, ap, subst}
use Rattle.model.specs.Meaning.{means as model-means}
use Rattle.kinds.proofs.Validity.{problem-lawful, few_variables}
use Rattle.marking.specs.Marks.{Runs}
use Rattle.marking.proofs.Marking.open.Goals as goal

pub returns-clause-sound : goal.returns-clause-sound
returns-clause-sound g c = λ sd.
    let b = c.open.result in
    let m = model-means b.model.now in
    record {
      part = subst g.T.DomainTable.sound (sym c.open.ensures.parts.0) sd;
      lawful = problem-lawful g.K.Kinds.demands m (g.T.DomainTable.means b.table).width g.met.K.Kinds.lawful b.model.now.valid;
      few = few_variables m b.model.now.valid;
      runs = subst (λ o. Runs g.K.Kinds.demands m (g.T.DomainTable.means b.table) o (reverse c.untaken.result.items)) (sym c.open.ensures.idle) (ap reverse c.untaken.ensures);
    }
