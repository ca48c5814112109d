use Rattle.tree.specs.Find.{tree}
use Rattle.tree.proofs.Trees.{tree_is, tree_unique}
use Rattle.tree.proofs.tree_is_one.Goals as goal

pub returns : goal.returns
returns c = λ P R D laws picks b. (tree_is P R laws picks D b, λ t h. tree_unique P R laws picks t (tree P R D) D b h (tree_is P R laws picks D b))
