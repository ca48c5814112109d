-- Both rules keep the law of rules. Assumes nothing.
use Rattle.tree.specs.Filter.{Problem}
use Rattle.tree.specs.Search.{Picks}
use Rattle.tree.specs.Rules.{first, small}
use Rattle.tree.proofs.Rules.{first_law, small_law}

pub first-lawful : {A : Type 0} (r : A) (P : Problem) → Picks P (first P.variables P.width)
first-lawful r P T b = first_law P T b

pub small-lawful : {A : Type 0} (r : A) (P : Problem) → Picks P (small P.variables P.width)
small-lawful r P T b = small_law P T b
