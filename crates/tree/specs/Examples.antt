-- Two small problems: that they keep the laws, and what the definitions compute of them. Assumes nothing.
use Rattle.std.specs.Prelude.{◌≡◌, ℕ, ◌+◌, Bool, true, not, ◌&&◌, ◌||◌, List, [], ◌∷◌, map, length, ◌==◌, nat_le, nat_lt, slice_index}
use Rattle.tree.specs.Tables.{Table}
use Rattle.tree.specs.Domains.{has_some, every}
use Rattle.tree.specs.Filter.{Problem, Lawful, Bounded, Node, failed, table}
use Rattle.tree.specs.Search.{nodes, plans, visited}
use Rattle.tree.specs.Find.{grid, cells, tree}
use Rattle.tree.specs.Rules.{first}
use Rattle.tree.specs.Budget.{planned, done, spent, calls}

-- What one constraint record asks of a table, and of one value for each variable.
pub record Constraint : Type 0 where
  pub stable : Table → Bool
  pub meets : List ℕ → Bool

-- v is the only value of x.
abbrev pub lone : ℕ → Table → ℕ → ℕ → Bool
lone w T x v = T x v && every w (λ u. not (T x u) || u == v)

-- x and y differ: the only value of x is no value of y.
abbrev pub differ : ℕ → ℕ → ℕ → Constraint
differ w x y = record {
  stable = λ T. every w (λ v. not (lone w T x v && T y v));
  meets = λ a. not (slice_index a x == slice_index a y);
}

-- x + p is at most y + q: each value of the one goes with a value of the other.
abbrev pub at_most : ℕ → ℕ → ℕ → ℕ → ℕ → Constraint
at_most w x p y q = record {
  stable = λ T. every w (λ v. not (T x v) || has_some (λ u. T y u && nat_le (v + p) (u + q)) w) && every w (λ u. not (T y u) || has_some (λ v. T x v && nat_le (v + p) (u + q)) w);
  meets = λ a. nat_le (slice_index a x + p) (slice_index a y + q);
}

abbrev pub all_stable : List Constraint → Table → Bool
all_stable [] T = true
all_stable (c ∷ cs) T = c.stable T && all_stable cs T

abbrev pub all_meet : List Constraint → List ℕ → Bool
all_meet [] a = true
all_meet (c ∷ cs) a = c.meets a && all_meet cs a

abbrev pub problem : ℕ → ℕ → List Constraint → Problem
problem n w cs = record { variables = n; width = w; stable = all_stable cs; meets = all_meet cs }

-- Two variables that differ, of the domains {0, 1} and {0, 1, 2}.
abbrev pub two_apart : Problem
two_apart = problem 2 3 (differ 3 0 1 ∷ differ 3 1 0 ∷ [])

abbrev pub apart_base : Table
apart_base x v = (x == 0 && nat_lt v 2) || (x == 1 && nat_lt v 3)

-- Two variables, the first below the second, both of the domain {0, 1, 2}.
abbrev pub two_in_order : Problem
two_in_order = problem 2 3 (at_most 3 0 1 1 0 ∷ [])

abbrev pub order_base : Table
order_base x v = nat_lt x 2 && nat_lt v 3

-- The pairs of a node, the last first.
abbrev pub shown : ℕ → ℕ → Node → List (ℕ × ℕ)
shown n w failed = []
shown n w (table T) = cells T (grid n w)

-- All that the theorems ask holds of the two, so that the theorems are not empty.
pub record ExamplesAreLawful : Type 0 where
  pub apart : Lawful two_apart
  pub apart_bounded : Bounded two_apart apart_base
  pub order : Lawful two_in_order
  pub order_bounded : Bounded two_in_order order_base

-- Plans, nodes and answers, by computing.
pub record ExamplesCompute : Type 0 where
  pub apart_plans : plans (tree two_apart (first 2 3) apart_base) ≡ (0 ∷ 1 ∷ []) ∷ (0 ∷ 2 ∷ []) ∷ (1 ∷ 0 ∷ []) ∷ (1 ∷ 2 ∷ []) ∷ []
  pub apart_nodes : length (nodes (tree two_apart (first 2 3) apart_base)) ≡ 7
  pub apart_answers :
      calls (nodes (tree two_apart (first 2 3) apart_base)) (2 ∷ 2 ∷ 2 ∷ 2 ∷ 2 ∷ 2 ∷ []) ≡
      spent 2 ∷ planned (0 ∷ 1 ∷ []) 1 ∷ planned (0 ∷ 2 ∷ []) 1 ∷ planned (1 ∷ 0 ∷ []) 2 ∷ planned (1 ∷ 2 ∷ []) 1 ∷ done 0 ∷ []
  pub order_plans : plans (tree two_in_order (first 2 3) order_base) ≡ (0 ∷ 1 ∷ []) ∷ (0 ∷ 2 ∷ []) ∷ (1 ∷ 2 ∷ []) ∷ []
  pub order_nodes :
      map (λ n. shown 2 3 (visited n)) (nodes (tree two_in_order (first 2 3) order_base)) ≡
      ((1, 2) ∷ (1, 1) ∷ (0, 1) ∷ (0, 0) ∷ []) ∷
      ((1, 2) ∷ (1, 1) ∷ (0, 0) ∷ []) ∷
      ((1, 1) ∷ (0, 0) ∷ []) ∷
      ((1, 2) ∷ (0, 0) ∷ []) ∷
      ((1, 2) ∷ (0, 1) ∷ []) ∷ []
