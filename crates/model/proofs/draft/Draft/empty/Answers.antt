use Rattle.model.proofs.Drafting.{none_held}
use Rattle.model.proofs.draft.Draft.empty.Goals as goal

pub invariant_of-result : goal.invariant_of-result
invariant_of-result c = none_held _ _ _ _ c.new.ensures c.new-2.ensures c.new-3.ensures c.new-4.ensures
