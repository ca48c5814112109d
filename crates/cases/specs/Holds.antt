-- Whether a claim holds, computed from what stores, models, trees and calls are. Assumes nothing.
use Rattle.std.specs.Prelude.{ℕ, Bool, true, false, not, ◌&&◌, ◌||◌, List, [], ◌∷◌, map, length, replicate, ◌==◌, nat_eq}
use Rattle.std.specs.List.{flat_map}
use Rattle.tree.specs.Tables.{Table}
use Rattle.tree.specs.Domains.{every}
use Rattle.tree.specs.Filter.{Problem, Node, failed, table}
use Rattle.tree.specs.Search.{Tree, nodes, plans}
use Rattle.tree.specs.Find.{node, tree as tree_of}
use Rattle.tree.specs.Rules.{first}
use Rattle.tree.specs.Budget.{calls as calls-on}
use Rattle.model.specs.declared.values.Window.{Window}
use Rattle.model.specs.Values.{Value}
use Rattle.model.specs.Reading.{Outcome, accepted, refused as refused-at, read_model}
use Rattle.stores.specs.Rows.{size_for, fresh}
use Rattle.stores.specs.Trails.{trail_depth}
use Rattle.stores.specs.Copies.{copy_depth}
use Rattle.tables.specs.Words.{digits}
use Rattle.tables.specs.Opening.{windowed, opened}
use Rattle.kinds.specs.Problems.{problem}
use Rattle.bank.specs.Standard.{standard}
use Rattle.search.specs.Sessions.{told}
use Rattle.search.specs.declared.search.Answer.{Answer}
use Rattle.search.specs.declared.search.Answer.TheVariants.{Plan, Done, Spent}
use Rattle.cases.specs.Claims.{Claimed, trail, copies, refused, tree, calls}
use Rattle.cases.specs.Marks.{stops_after}

-- Two lists are the same, by a test of their items.
abbrev pub same : {A : Type 0} → (A → A → Bool) → List A → List A → Bool
same f [] [] = true
same f [] (y ∷ ys) = false
same f (x ∷ xs) [] = false
same f (x ∷ xs) (y ∷ ys) = f x y && same f xs ys

abbrev pub same_answer : Answer → Answer → Bool
same_answer (Plan c) (Plan d) = c == d
same_answer (Plan c) (Done d) = false
same_answer (Plan c) (Spent d) = false
same_answer (Done c) (Plan d) = false
same_answer (Done c) (Done d) = c == d
same_answer (Done c) (Spent d) = false
same_answer (Spent c) (Plan d) = false
same_answer (Spent c) (Done d) = false
same_answer (Spent c) (Spent d) = c == d

-- What the outcome of reading says: a refusal, or of the model that is read.
abbrev pub is_refused : ℕ → ℕ → Outcome → Bool
is_refused number place (accepted m) = false
is_refused number place (refused-at n p) = n == number && p == place

abbrev pub of_model : (Value → Bool) → Outcome → Bool
of_model f (accepted m) = f m
of_model f (refused-at n p) = false

-- The problem of a model, the table that it is opened with, and its tree under the rule `first`, all of values below the width of
-- a table of words.
abbrev pub asked : Value → Problem
asked m = problem standard m digits

abbrev pub base : Value → Table
base m = (opened m.windows (fresh (length m.windows) 0)).domains

abbrev pub grown : Value → Tree
grown m = tree_of (asked m) (first (length m.windows) digits) (base m)

-- The same domains, of n variables with values below the width.
abbrev pub alike : ℕ → Table → Table → Bool
alike n S T = every n (λ x. every digits (λ v. (S x v && T x v) || (not (S x v) && not (T x v))))

abbrev pub is_root : ℕ → List Window → Node → Bool
is_root n ws failed = false
is_root n ws (table T) = alike n T (windowed ws)

abbrev pub is_tree : List Window → List ℕ → ℕ → Value → Bool
is_tree root values count m =
    is_root (length m.windows) root (node (asked m) (base m)) &&
    (same nat_eq (flat_map (λ a. a) (plans (grown m))) values &&
    (length (nodes (grown m)) == count))

abbrev pub is_answered : ℕ → List Answer → Value → Bool
is_answered budget answers m = same same_answer (map told (calls-on (nodes (grown m)) (replicate (length answers) budget))) answers

unfoldable pub holds : Claimed → Bool
holds (trail cells entries depth number) =
    let n = size_for cells cells in
    (trail_depth entries n == depth) && stops_after depth number (fresh n (trail_depth entries n))
holds (copies cells words depth) = copy_depth words (size_for cells words) == depth
holds (refused bytes number place) = is_refused number place (read_model bytes)
holds (tree bytes root values count) = of_model (is_tree root values count) (read_model bytes)
holds (calls bytes budget answers) = of_model (is_answered budget answers) (read_model bytes)
