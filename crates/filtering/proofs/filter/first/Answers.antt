use Rattle.model.specs.Meaning.{records}
use Rattle.std.proofs.Common.{sym, ◌∙◌}
use Rattle.filtering.proofs.Listing.{does_name-below}
use Rattle.filtering.proofs.filter.first.Goals as goal

pub returns-in-Changed-clause-below : goal.returns-in-Changed-clause-below
returns-in-Changed-clause-below c = λ i h. does_name-below (records c.args.model.now) i c.in-Changed.x (sym (c.naming.ensures i) ∙ h)
