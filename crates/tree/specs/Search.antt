-- The tree of choices, its nodes and its plans. Assumes nothing.
use Rattle.std.specs.Prelude.{◌≡◌, ℕ, zero, suc, ◌≢◌, ◌⊎◌, List, [], ◌∷◌, ◌++◌, Some, None, Option, slice_index}
use Rattle.tree.specs.Tables.{Table, Open, Choice, kept, dropped, single}
use Rattle.tree.specs.Filter.{Problem, Bounded, Full, Fits, Filtered, Node, failed, table}

-- A branching rule: which variable is decided next and which of its values is tried first, or none.
abbrev pub Rule : Type 0
Rule = Table → Option (ℕ × ℕ)

-- The law of one answer. A pair: no domain is empty, the variable is open, and the value is in its domain.
-- None: a domain is empty, or no variable is open.
abbrev pub Picked : Problem → Table → Option (ℕ × ℕ) → Type 0
Picked P T (Some p) = Full P T × Choice T p.0 p.1
Picked P T None = Full P T → (x : ℕ) → Open T x → ⊥

-- The law of a rule.
abbrev pub Picks : Problem → Rule → Type 0
Picks P R = (T : Table) → Bounded P T → Picked P T (R T)

-- A tree is a failure, a plan, or an open table with the pair that the rule answers and two trees:
-- on the left the variable is kept at the value, on the right the value is dropped.
pub data Tree : Type 0 where
  dead : Tree
  plan : List ℕ → Tree
  fork : Table → ℕ → ℕ → Tree → Tree → Tree

-- The tree of the table D: its root is the filtered table of D.
abbrev pub TreeOf : Problem → Rule → Table → Tree → Type 0
TreeOf P R D dead = (S : Table) → Fits P D S → ⊥
TreeOf P R D (plan a) = Filtered P D (single a)
TreeOf P R D (fork T x v l r) = Filtered P D T × (R T ≡ Some (x, v)) × TreeOf P R (kept x v T) l × TreeOf P R (dropped x v T) r

-- On no way down from the root are there more than k forks.
abbrev pub EndsWithin : ℕ → Tree → Type 0
EndsWithin k dead = Unit {0}
EndsWithin k (plan a) = Unit {0}
EndsWithin zero (fork T x v l r) = ⊥
EndsWithin (suc k) (fork T x v l r) = EndsWithin k l × EndsWithin k r

-- What a visit finds at a node: it failed, its table is open, or it is a plan.
pub data Visit : Type 0 where
  is_failed : Visit
  is_open : Table → Visit
  is_plan : List ℕ → Visit

-- The node that is visited.
abbrev pub visited : Visit → Node
visited is_failed = failed
visited (is_open T) = table T
visited (is_plan a) = table (single a)

-- All nodes of a tree in the order of their visits: the root, the left part, the right part.
abbrev pub nodes : Tree → List Visit
nodes dead = is_failed ∷ []
nodes (plan a) = is_plan a ∷ []
nodes (fork T x v l r) = is_open T ∷ (nodes l ++ nodes r)

-- The plan list of a tree: its plans from left to right.
abbrev pub plans : Tree → List (List ℕ)
plans dead = []
plans (plan a) = a ∷ []
plans (fork T x v l r) = plans l ++ plans r

-- The plans among some nodes, in the order of the nodes.
abbrev pub plans_among : List Visit → List (List ℕ)
plans_among [] = []
plans_among (is_failed ∷ ns) = plans_among ns
plans_among (is_open T ∷ ns) = plans_among ns
plans_among (is_plan a ∷ ns) = a ∷ plans_among ns

-- a is among bs.
abbrev pub Listed : List ℕ → List (List ℕ) → Type 0
Listed a [] = ⊥
Listed a (b ∷ bs) = (a ≡ b) ⊎ Listed a bs

-- Each stands in the relation R to all after it.
abbrev pub Ordered : (List ℕ → List ℕ → Type 0) → List (List ℕ) → Type 0
Ordered R [] = Unit {0}
Ordered R (a ∷ rest) = ((b : List ℕ) → Listed b rest → R a b) × Ordered R rest

-- The list us is the front of vs.
abbrev pub Front : List (List ℕ) → List (List ℕ) → Type 0
Front us vs = (later : List (List ℕ)) × (us ++ later ≡ vs)

-- Tree order: where the ways to a and to b part, a goes left and b goes right. A plan goes left at a fork (x, v) when its value
-- of x is v.
abbrev pub Before : Tree → List ℕ → List ℕ → Type 0
Before dead a b = ⊥
Before (plan c) a b = ⊥
Before (fork T x v l r) a b =
    ((slice_index a x ≡ v) × (slice_index b x ≢ v)) ⊎
    (((slice_index a x ≡ v) × (slice_index b x ≡ v) × Before l a b) ⊎
    ((slice_index a x ≢ v) × (slice_index b x ≢ v) × Before r a b))
