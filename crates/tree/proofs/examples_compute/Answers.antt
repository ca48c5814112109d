use Rattle.std.proofs.Common.{refl}
use Rattle.tree.proofs.examples_compute.Goals as goal

pub returns : goal.returns
returns c = record { apart_plans = refl; apart_nodes = refl; apart_answers = refl; order_plans = refl; order_nodes = refl }
