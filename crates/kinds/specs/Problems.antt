-- The problem that a model and a set of kinds make. Assumes nothing.
use Rattle.std.specs.Prelude.{◌≡◌, ℕ, ◌<◌, ◌≤◌, Bool, true, length}
use Rattle.tree.specs.Domains.{every}
use Rattle.tree.specs.Filter.{Problem}
use Rattle.model.specs.Values.{Value}
use Rattle.model.specs.Drafts.{does_name}
use Rattle.std.specs.List.{slice_get}
use Rattle.kinds.specs.Demands.{Demand, Demands, demanded}
use Rattle.kinds.specs.Laws.{KeepsLaws}

-- All constraint records together: how many there are, over how many variables and which width; by number, the variables that
-- each names, and what it asks.
pub record Asks : Type 0 where
  pub count : ℕ
  pub variables : ℕ
  pub width : ℕ
  pub names : ℕ → ℕ → Bool
  pub demand : ℕ → Demand

-- The records of the model m, for values below w.
abbrev pub asks : Demands → Value → ℕ → Asks
asks D m w = record {
  count = length m.records;
  variables = length m.windows;
  width = w;
  names = does_name m.records;
  demand = λ i. demanded D w (slice_get m.records i);
}

-- A table is stable when it is stable for each record, and values meet the records when they meet each.
abbrev pub together : Asks → Problem
together A = record {
  variables = A.variables;
  width = A.width;
  stable = λ T. every A.count (λ i. (A.demand i).stable T);
  meets = λ a. every A.count (λ i. (A.demand i).meets a);
}

-- The problem of the model m, for values below w.
abbrev pub problem : Demands → Value → ℕ → Problem
problem D m w = together (asks D m w)

-- What holds of all records together.
pub record Laws (A : Asks) : Type 0 where
  pub few : A.count ≤ 64
  pub small : A.variables ≤ 64
  pub keeps : (i : ℕ) → i < A.count → KeepsLaws A.variables A.width (A.demand i)
  -- a record's demand names no variable that the record does not
  pub names : (i x : ℕ) → (A.demand i).names x ≡ true → A.names i x ≡ true
