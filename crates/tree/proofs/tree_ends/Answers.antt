use Rattle.std.proofs.Common.{arith}
use Rattle.tree.specs.Find.{total}
use Rattle.tree.proofs.Pairs.{count-grid}
use Rattle.tree.proofs.Trees.{tree_ends_lem}
use Rattle.tree.proofs.tree_ends.Goals as goal

pub returns : goal.returns
returns c = λ P R D t picks b h. (tree_ends_lem P R picks (total P D) t D b h (omega arith), count-grid P.variables P.width D)
