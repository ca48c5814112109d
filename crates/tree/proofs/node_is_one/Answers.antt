use Rattle.tree.specs.Find.{node}
use Rattle.tree.proofs.Filter.{node_unique}
use Rattle.tree.proofs.Exists.{node-is}
use Rattle.tree.proofs.node_is_one.Goals as goal

pub returns : goal.returns
returns c = λ P D laws b. (node-is P laws D b, λ M m. node_unique P D M (node P D) m (node-is P laws D b))
