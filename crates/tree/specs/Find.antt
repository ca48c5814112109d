-- The node and the tree of a table as functions, which compute on small problems. Assumes nothing.
use Rattle.std.specs.Prelude.{ℕ, zero, suc, Bool, true, cond, ◌&&◌, List, [], ◌∷◌, ◌++◌, map, Some, None, Option}
use Rattle.std.specs.List.{range_with_len}
use Rattle.tree.specs.Tables.{Table, join, kept, dropped}
use Rattle.tree.specs.Domains.{has_some, greatest}
use Rattle.tree.specs.Filter.{Problem, Node, failed, table}
use Rattle.tree.specs.Search.{Rule, Tree, dead, plan, fork, Visit, is_failed, is_open, is_plan, nodes}

-- None of the first n domains is empty, of the values below w.
abbrev pub is_full : ℕ → ℕ → Table → Bool
is_full zero w T = true
is_full (suc n) w T = has_some (T n) w && is_full n w T

abbrev pub row : ℕ → ℕ → List (ℕ × ℕ)
row x zero = []
row x (suc w) = (x, w) ∷ row x w

-- All variables below n with all values below w.
abbrev pub grid : ℕ → ℕ → List (ℕ × ℕ)
grid zero w = []
grid (suc n) w = row n w ++ grid n w

-- Those of the pairs that are in T, and how many they are.
abbrev pub cells : Table → List (ℕ × ℕ) → List (ℕ × ℕ)
cells T [] = []
cells T (p ∷ ps) = cond (T p.0 p.1) (p ∷ cells T ps) (cells T ps)

abbrev pub count : List (ℕ × ℕ) → Table → ℕ
count [] T = 0
count (p ∷ ps) T = cond (T p.0 p.1) (suc (count ps T)) (count ps T)

-- How many values the domains of T have in all.
abbrev pub total : Problem → Table → ℕ
total P T = count (grid P.variables P.width) T

abbrev pub either : Node → Node → Node
either failed N = N
either (table S) failed = table S
either (table S) (table T) = table (join S T)

-- All tables that come of T by dropping some of the pairs, if they are stable and have no empty domain, joined.
-- It need not look inside a stable table, nor inside one with an empty domain.
abbrev pub best : Problem → List (ℕ × ℕ) → Table → Node
best P [] T = cond (is_full P.variables P.width T) (cond (P.stable T) (table T) failed) failed
best P (p ∷ ps) T =
    let parts = either (best P ps T) (best P ps (dropped p.0 p.1 T)) in
    cond (is_full P.variables P.width T) (cond (P.stable T) (table T) parts) failed

-- The node of D.
abbrev pub node : Problem → Table → Node
node P D = best P (cells D (grid P.variables P.width)) D

-- The values of a table of single values.
abbrev pub values : ℕ → ℕ → Table → List ℕ
values n w T = map (λ x. greatest (T x) w) (range_with_len 0 n)

-- A tree with the given root over trees that are known.
abbrev pub branch : Problem → (Table → Tree) → Table → Option (ℕ × ℕ) → Tree
branch P below T None = plan (values P.variables P.width T)
branch P below T (Some p) = fork T p.0 p.1 (below (kept p.0 p.1 T)) (below (dropped p.0 p.1 T))

abbrev pub grow : Problem → Rule → (Table → Tree) → Node → Tree
grow P R below failed = dead
grow P R below (table T) = branch P below T (R T)

abbrev pub explore : Problem → Rule → ℕ → Table → Tree
explore P R zero D = dead
explore P R (suc k) D = grow P R (explore P R k) (node P D)

-- The tree of D. Each fork takes a value away at least, so that it is explored deep enough.
abbrev pub tree : Problem → Rule → Table → Tree
tree P R D = explore P R (suc (total P D)) D

-- What a visit finds at a node, and the nodes under it in their order.
abbrev pub found : Problem → Table → Option (ℕ × ℕ) → Visit
found P T None = is_plan (values P.variables P.width T)
found P T (Some p) = is_open T

abbrev pub visit : Problem → Rule → Node → Visit
visit P R failed = is_failed
visit P R (table T) = found P T (R T)

abbrev pub parts : Problem → Rule → Table → Option (ℕ × ℕ) → List Visit
parts P R T None = []
parts P R T (Some p) = nodes (tree P R (kept p.0 p.1 T)) ++ nodes (tree P R (dropped p.0 p.1 T))

abbrev pub under : Problem → Rule → Node → List Visit
under P R failed = []
under P R (table T) = parts P R T (R T)
