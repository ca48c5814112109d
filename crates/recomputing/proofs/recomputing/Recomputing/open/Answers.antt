use Rattle.std.proofs.Common.{length, reverse, sym, ap, subst, arith}
use Rattle.model.specs.Meaning.{means as model-means}
use Rattle.kinds.proofs.Validity.{problem-lawful, few_variables}
use Rattle.recomputing.specs.Walk.{taken}
use Rattle.recomputing.specs.Recomputed.{Runs}
use Rattle.recomputing.proofs.recomputing.Recomputing.open.Goals as goal

pub returns-clause-sound : goal.returns-clause-sound
returns-clause-sound g c = λ sd.
    let b = c.open.result in
    let m = model-means b.model.now in
    record {
      part = subst g.T.DomainTable.sound (sym c.open.ensures.parts.0) sd;
      lawful = problem-lawful g.K.Kinds.demands m (g.T.DomainTable.means b.table).width g.met.K.Kinds.lawful b.model.now.valid;
      few = few_variables m b.model.now.valid;
      counted = sym (ap (λ q. length (taken (reverse q))) c.new-path.ensures);
      most = omega arith;
      runs = subst (λ o. Runs g.K.Kinds.demands m (g.T.DomainTable.means b.table) o (reverse c.new-path.result)) (sym c.open.ensures.idle) (ap reverse c.new-path.ensures);
    }
