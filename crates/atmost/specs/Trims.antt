-- What the parts of a pass do. Assumes nothing.
use Rattle.std.specs.Prelude.{◌≡◌, ℕ, ◌*◌, Bool, true, false, ◌≢◌, List, ℤ, pos, ◌*ℤ◌, neg_ℤ, ◌≤ℤ◌, Some, None, Ok, Err, Option, Result}
use Rattle.bits.specs.Bit.{has, Empty}
use Rattle.tree.specs.Tables.{Table, Inside}
use Rattle.model.specs.declared.values.Term.{Term}
use Rattle.tables.specs.States.{TableState}
use Rattle.tables.specs.Calls.{Leasts, Greatests}
use Rattle.tables.specs.declared.table.TableFault.{TableFault}
use Rattle.kinds.specs.Demands.{Demand}
use Rattle.kinds.specs.Laws.{Filled}
use Rattle.kinds.specs.Passes.{Alive, Dead}
use Rattle.kinds.specs.Sofar.{Sofar}
use Rattle.kinds.specs.declared.shrunk.Shrunk.{Shrunk}
use Rattle.kinds.specs.Shrunk.{set_of, has_failed}
use Rattle.atmost.specs.Linear.{low, lows, listed}

-- the greatest value, or the least
abbrev pub End : TableState → ℕ → Bool → Result (Option ℕ) TableFault → Type 0
End s x true r = Greatests s x r
End s x false r = Leasts s x r

-- a 16-bit coefficient times a value of one byte
abbrev pub Small : ℤ → Type 0
Small z = (neg_ℤ (pos 8388608) ≤ℤ z) × (z ≤ℤ pos 8388608)

-- the sum of k such
abbrev pub SmallSum : ℕ → ℤ → Type 0
SmallSum k z = (neg_ℤ (pos (k * 8388608)) ≤ℤ z) × (z ≤ℤ pos (k * 8388608))

-- the low of a term, none where its domain is empty or missing
abbrev pub Part : TableState → Term → Option ℤ → Type 0
Part s t (Some z) = Alive s.domains t.variable × (z ≡ low s.width (s.domains t.variable) t.coefficient)
Part s t None = Dead s.domains t.variable

-- the sum of the lows, none where a domain is empty or missing
abbrev pub Total : TableState → List Term → Option ℤ → Type 0
Total s ts (Some z) = ((x : ℕ) → listed ts x ≡ true → Alive s.domains x) × (z ≡ lows s.width s.domains ts)
Total s ts None = (x : ℕ) × (listed ts x ≡ true) × Dead s.domains x

-- No stable table inside s has a value of the term which, times the coefficient, is above the room.
abbrev pub Barred : ℕ → Demand → TableState → Term → ℤ → Type 0
Barred n A s t room = (S : Table) → Filled n S → A.stable S ≡ true → Inside S s.domains → (v : ℕ) → S t.variable v ≡ true → (t.coefficient *ℤ pos v) ≤ℤ room

-- The values of the term above the room were taken away, until none was left.
pub record Trimmed (n : ℕ) (A : Demand) (s : TableState) (t : Term) (room : ℤ) (before : TableState) (r : Shrunk) (after : TableState) : Type 0 where
  pub sofar : Sofar n A s (set_of r) after
  pub apart : (z : ℕ) → z ≢ t.variable → Alive before.domains z → Alive after.domains z
  pub empty : has_failed r ≡ true → Dead after.domains t.variable
  pub full : has_failed r ≡ false → Alive after.domains t.variable
  pub none : has_failed r ≡ false → Empty (has (set_of r).word) → (after ≡ before) × ((v : ℕ) → before.domains t.variable v ≡ true → (t.coefficient *ℤ pos v) ≤ℤ room)

abbrev pub Trims : ℕ → Demand → TableState → Term → ℤ → TableState → TableState → Result Shrunk TableFault → Type 0
Trims n A s t room before after (Ok r) = Trimmed n A s t room before r after
Trims n A s t room before after (Err e) = ⊥
