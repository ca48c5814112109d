-- What one pass of a record over a table does. Assumes nothing.
use Rattle.std.specs.Prelude.{◌≡◌, ℕ, true, false, Ok, Err, Result}
use Rattle.bits.specs.Bit.{has, Empty}
use Rattle.bits.specs.declared.Set.{Set}
use Rattle.tree.specs.Tables.{Table, Inside}
use Rattle.tables.specs.States.{TableState, with_domains}
use Rattle.tables.specs.declared.table.TableFault.{TableFault}
use Rattle.kinds.specs.Demands.{Demand}
use Rattle.kinds.specs.Laws.{Filled}
use Rattle.kinds.specs.declared.shrunk.Shrunk.{Shrunk}
use Rattle.kinds.specs.Shrunk.{set_of, has_failed}

-- Values are only taken away, only from named domains, and none that a stable table inside has, of n variables without an empty
-- domain. Variables, width, saved tables and depth are as they were.
pub record Narrows (n : ℕ) (A : Demand) (s t : TableState) : Type 0 where
  pub others : t ≡ with_domains s t.domains
  pub inside : Inside t.domains s.domains
  pub named : (x v : ℕ) → A.names x ≡ false → s.domains x v ≡ true → t.domains x v ≡ true
  pub keeps : (S : Table) → Filled n S → A.stable S ≡ true → Inside S s.domains → Inside S t.domains

-- The set holds just the variables whose domain got smaller.
pub record Smaller (s : TableState) (set : Set) (t : TableState) : Type 0 where
  pub smaller : (x : ℕ) → has set.word x ≡ true → (v : ℕ) × (s.domains x v ≡ true) × (t.domains x v ≡ false)
  pub same : (x v : ℕ) → has set.word x ≡ false → s.domains x v ≡ true → t.domains x v ≡ true

-- x has a value, or none.
abbrev pub Alive : Table → ℕ → Type 0
Alive T x = (v : ℕ) × (T x v ≡ true)

abbrev pub Dead : Table → ℕ → Type 0
Dead T x = (v : ℕ) → T x v ≡ false

pub record Passed (n : ℕ) (A : Demand) (s : TableState) (r : Shrunk) (t : TableState) : Type 0 where
  pub narrows : Narrows n A s t
  pub shrunk : Smaller s (set_of r) t
  -- nothing is done where a named domain is empty or missing
  pub still : (x : ℕ) → A.names x ≡ true → Dead s.domains x → t ≡ s
  -- the answer says whether a named domain is empty or missing
  pub empty : has_failed r ≡ true → (x : ℕ) × (A.names x ≡ true) × Dead t.domains x
  pub full : has_failed r ≡ false → (x : ℕ) → A.names x ≡ true → Alive t.domains x
  -- it stops when it empties one: no two domains get empty
  pub stops : (x y : ℕ) → Alive s.domains x → Dead t.domains x → Alive s.domains y → Dead t.domains y → x ≡ y
  -- where nothing was taken away and no named domain is empty or missing the table is stable
  pub stable : Empty (has (set_of r).word) → ((x : ℕ) → A.names x ≡ true → Alive t.domains x) → A.stable t.domains ≡ true

-- A pass over a sound table is never refused.
abbrev pub Passes : ℕ → Demand → TableState → TableState → Result Shrunk TableFault → Type 0
Passes n A s t (Ok r) = Passed n A s r t
Passes n A s t (Err e) = ⊥
