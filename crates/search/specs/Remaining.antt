-- What is still to visit of a tree, from the pile of a space and the choices between its nodes. Assumes nothing.
use Rattle.std.specs.Prelude.{◌≡◌, ℕ, Bool, true, false, List, [], ◌∷◌, ◌++◌, Some}
use Rattle.tree.specs.Tables.{Table, dropped}
use Rattle.tree.specs.Filter.{Problem, Bounded, Node, failed, table, NodeOf}
use Rattle.tree.specs.Search.{Rule, Visit, nodes}
use Rattle.tree.specs.Find.{tree, visit, under}

module _ (P : Problem) (R : Rule) where
  -- The parts to the right of the standing takes, the newest first.
  abbrev pub rights : List Node → List (ℕ × ℕ) → List Visit
  rights [] cs = []
  rights (failed ∷ p) cs = []
  rights (table T ∷ p) [] = []
  rights (table T ∷ p) (c ∷ cs) = nodes (tree P R (dropped c.0 c.1 T)) ++ rights p cs

  -- The nodes after the top: those under it, then those parts.
  abbrev pub later : List Node → List (ℕ × ℕ) → List Visit
  later [] cs = []
  later (N ∷ p) cs = under P R N ++ rights p cs

  -- The top too, as long as it is not visited.
  abbrev pub remaining : Bool → List Node → List (ℕ × ℕ) → List Visit
  remaining true [] cs = []
  remaining true (N ∷ p) cs = visit P R N ∷ later (N ∷ p) cs
  remaining false p cs = later p cs

  -- N is the node of some table within the problem.
  abbrev pub Made : Node → Type 0
  Made N = (D : Table) × Bounded P D × NodeOf P D N

  -- At each node below the top stands the choice that the rule answers there.
  abbrev pub Forked : List Node → List (ℕ × ℕ) → Type 0
  Forked [] [] = Unit {0}
  Forked [] (c ∷ cs) = ⊥
  Forked (failed ∷ p) cs = ⊥
  Forked (table T ∷ p) [] = ⊥
  Forked (table T ∷ p) (c ∷ cs) = Made (table T) × (R T ≡ Some c) × Forked p cs

  -- In a session the pile is a way down the tree by the rule.
  abbrev pub Sitting : Bool → List Node → List (ℕ × ℕ) → Type 0
  Sitting false p cs = Unit {0}
  Sitting true [] cs = ⊥
  Sitting true (N ∷ p) cs = Made N × Forked p cs
