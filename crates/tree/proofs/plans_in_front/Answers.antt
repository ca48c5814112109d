use Rattle.std.proofs.Common.{◌∙◌}
use Rattle.tree.specs.Search.{nodes}
use Rattle.tree.proofs.Budgets.{plans_split, plans-nodes}
use Rattle.tree.proofs.plans_in_front.Goals as goal

pub returns : goal.returns
returns c = λ t m. plans_split m (nodes t) ∙ plans-nodes t
