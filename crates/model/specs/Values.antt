-- What a model is: a window of values for each variable, and constraint records. Assumes nothing.
use Rattle.std.specs.Prelude.{ℕ, ◌+◌, ◌<◌, ◌≤◌, ◌≢◌, List, [], ◌∷◌, map, length, ℤ, FitsSigned}
use Rattle.std.specs.Int.{w16, w32}
use Rattle.std.specs.List.{AllByRecursion}
use Rattle.model.specs.declared.values.Window.{Window}
use Rattle.model.specs.declared.values.Term.{Term}

-- A constraint record: the sum of the terms is at most the bound, or no two of the variables are equal.
pub data Record : Type 0 where
  at_most : ℤ → List Term → Record
  different : List ℕ → Record

-- Variables are numbered from 0: variable i has the window at place i.
pub record Value : Type 0 where
  pub windows : List Window
  pub records : List Record

-- The variables that a record names, in its order.
abbrev pub names : Record → List ℕ
names (at_most bound terms) = map (λ t. t.variable) terms
names (different xs) = xs

-- The terms and listed variables of all records are the model's entries.
abbrev pub entries : List Record → ℕ
entries [] = 0
entries (r ∷ rs) = length (names r) + entries rs

-- No two are equal.
abbrev pub Distinct : List ℕ → Type 0
Distinct [] = Unit {0}
Distinct (x ∷ xs) = AllByRecursion (λ y. x ≢ y) xs × Distinct xs

-- The window holds a value, and none above 63.
pub record WindowValid (w : Window) : Type 0 where
  pub some : w.low < w.high
  pub most : w.high ≤ 64

-- How many entries a record has at least.
abbrev pub fewest : Record → ℕ
fewest (at_most bound terms) = 1
fewest (different xs) = 2

-- The numbers of a record have room in its bytes.
abbrev pub Sized : Record → Type 0
Sized (at_most bound terms) = FitsSigned w32 bound × AllByRecursion (λ t. FitsSigned w16 t.coefficient) terms
Sized (different xs) = Unit {0}

-- A record over n variables names only those, and none twice.
pub record RecordValid (n : ℕ) (r : Record) : Type 0 where
  pub enough : fewest r ≤ length (names r)
  pub few : length (names r) ≤ 64
  pub sized : Sized r
  pub below : AllByRecursion (λ x. x < n) (names r)
  pub apart : Distinct (names r)

pub record Valid (m : Value) : Type 0 where
  pub some_variable : 1 ≤ length m.windows
  pub few_variables : length m.windows ≤ 64
  pub windows : AllByRecursion WindowValid m.windows
  pub few_records : length m.records ≤ 64
  pub few_entries : entries m.records ≤ 1024
  pub records : AllByRecursion (RecordValid (length m.windows)) m.records
