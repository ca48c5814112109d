-- A problem, and the filtered tables of it. Assumes nothing.
use Rattle.std.specs.Prelude.{◌≡◌, ℕ, ◌<◌, Bool, true, List, length, slice_index}
use Rattle.tree.specs.Tables.{Table, Inside, join, single}

-- How many variables there are, the width below which all values lie, and what the constraint records ask together:
-- `stable` of a table (no record can take a value away), `meets` of one value for each variable.
pub record Problem : Type 0 where
  pub variables : ℕ
  pub width : ℕ
  pub stable : Table → Bool
  pub meets : List ℕ → Bool

-- T has no other variables and values than those of the problem.
abbrev pub Bounded : Problem → Table → Type 0
Bounded P T = (x v : ℕ) → T x v ≡ true → (x < P.variables) × (v < P.width)

-- No domain is empty.
abbrev pub Full : Problem → Table → Type 0
Full P T = (x : ℕ) → x < P.variables → (v : ℕ) × (T x v ≡ true)

-- What the theorems ask of the records. Both laws are of tables without an empty domain.
pub record Lawful (P : Problem) : Type 0 where
  -- two stable tables joined are stable
  pub joins : (S T : Table) → Bounded P S → Bounded P T → Full P S → Full P T → P.stable S ≡ true → P.stable T ≡ true → P.stable (join S T) ≡ true
  -- a table of single values is stable exactly when these values meet the records
  pub singles : (a : List ℕ) → Bounded P (single a) → Full P (single a) → P.stable (single a) ≡ P.meets a

-- The list a has a value for each variable, one of its domain.
pub record From (P : Problem) (T : Table) (a : List ℕ) : Type 0 where
  pub long : length a ≡ P.variables
  pub left : (x : ℕ) → x < P.variables → T x (slice_index a x) ≡ true

-- The list a is a plan of T: it meets the records too.
pub record Solves (P : Problem) (T : Table) (a : List ℕ) : Type 0 where
  pub from : From P T a
  pub meets : P.meets a ≡ true

module _ (P : Problem) where
  -- S is a stable table inside D without an empty domain.
  pub record Fits (D S : Table) : Type 0 where
    pub inside : Inside S D
    pub full : Full P S
    pub stable : P.stable S ≡ true

  -- T is the filtered table of D: the largest of those that fit.
  pub record Filtered (D T : Table) : Type 0 where
    pub fits : Fits D T
    pub largest : (S : Table) → Fits D S → Inside S T

-- A node: failed, or a filtered table.
pub data Node : Type 0 where
  failed : Node
  table : Table → Node

-- The node of D: its filtered table, or failed where no table fits.
abbrev pub NodeOf : Problem → Table → Node → Type 0
NodeOf P D failed = (S : Table) → Fits P D S → ⊥
NodeOf P D (table T) = Filtered P D T
