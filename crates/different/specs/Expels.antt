-- What the parts of a pass do. Assumes nothing.
use Rattle.std.specs.Prelude.{◌≡◌, ℕ, ◌<◌, ◌≤◌, Bool, true, false, ◌≢◌, List, Some, None, Ok, Err, Option, Result}
use Rattle.bits.specs.Bit.{has, Empty}
use Rattle.tree.specs.Tables.{Table, Inside}
use Rattle.model.specs.Reading.{among}
use Rattle.tables.specs.States.{TableState}
use Rattle.tables.specs.declared.table.TableFault.{TableFault}
use Rattle.kinds.specs.Demands.{Demand}
use Rattle.kinds.specs.Laws.{Filled}
use Rattle.kinds.specs.Passes.{Alive, Dead}
use Rattle.kinds.specs.Sofar.{Sofar}
use Rattle.kinds.specs.declared.shrunk.Shrunk.{Shrunk}
use Rattle.kinds.specs.Shrunk.{set_of, has_failed}

-- the value of x, if it is single
abbrev pub Alone : TableState → ℕ → Result (Option ℕ) TableFault → Type 0
Alone s x (Ok (Some v)) = (s.domains x v ≡ true) × ((u : ℕ) → s.domains x u ≡ true → u ≡ v)
Alone s x (Ok None) = (v : ℕ) → s.domains x v ≡ true → (u : ℕ) × (s.domains x u ≡ true) × (u ≢ v)
Alone s x (Err e) = s.variables ≤ x

-- the value of x, if it is single and the value is in the set; else no only value of x is
abbrev pub Crowds : TableState → ℕ → (ℕ → Bool) → Result (Option ℕ) TableFault → Type 0
Crowds s x twice (Ok (Some v)) = (s.domains x v ≡ true) × ((u : ℕ) → s.domains x u ≡ true → u ≡ v) × (twice v ≡ true)
Crowds s x twice (Ok None) = (v : ℕ) → s.domains x v ≡ true → ((u : ℕ) → s.domains x u ≡ true → u ≡ v) → twice v ≡ false
Crowds s x twice (Err e) = s.variables ≤ x

-- whether x is there and has a value
abbrev pub Lives : TableState → ℕ → Bool → Type 0
Lives s x true = Alive s.domains x
Lives s x false = Dead s.domains x

-- The demand names just the listed variables, all of which the table has.
pub record Lists (A : Demand) (xs : List ℕ) (t : TableState) : Type 0 where
  pub names : (y : ℕ) → A.names y ≡ among y xs
  pub there : (y : ℕ) → among y xs ≡ true → y < t.variables

-- No stable table inside s has the value v for a listed variable other than x.
abbrev pub Barred : ℕ → Demand → TableState → List ℕ → ℕ → ℕ → Type 0
Barred n A s xs x v = (S : Table) → Filled n S → A.stable S ≡ true → Inside S s.domains → (y : ℕ) → among y xs ≡ true → y ≢ x → S y v ≡ false

-- From t on, v was taken from the listed variables other than x, until one was empty.
pub record Expelled (n : ℕ) (A : Demand) (s : TableState) (xs : List ℕ) (x v : ℕ) (t : TableState) (r : Shrunk) (u : TableState) : Type 0 where
  pub sofar : Sofar n A s (set_of r) u
  pub empty : has_failed r ≡ true → (y : ℕ) × (among y xs ≡ true) × Dead u.domains y × ((z : ℕ) → z ≢ y → Alive t.domains z → Alive u.domains z)
  pub full : has_failed r ≡ false → (z : ℕ) → Alive t.domains z → Alive u.domains z
  pub none : has_failed r ≡ false → Empty (has (set_of r).word) → (u ≡ t) × ((y : ℕ) → among y xs ≡ true → y ≢ x → t.domains y v ≡ false)

abbrev pub Expels : ℕ → Demand → TableState → List ℕ → ℕ → ℕ → TableState → TableState → Result Shrunk TableFault → Type 0
Expels n A s xs x v t u (Ok r) = Expelled n A s xs x v t r u
Expels n A s xs x v t u (Err e) = ⊥
