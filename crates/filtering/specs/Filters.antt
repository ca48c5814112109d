-- What filtering does. Assumes nothing.
use Rattle.std.specs.Prelude.{◌≡◌, ℕ, ◌<◌, Bool, true, false, ◌≢◌, List, Ok, Err, Result}
use Rattle.tree.specs.Tables.{Table, Inside}
use Rattle.tree.specs.Filter.{Problem, Fits, Filtered, failed, NodeOf}
use Rattle.model.specs.Values.{Record}
use Rattle.model.specs.Drafts.{does_name}
use Rattle.tables.specs.States.{TableState, with_domains}
use Rattle.tables.specs.declared.table.TableFault.{TableFault}
use Rattle.kinds.specs.Passes.{Alive, Dead}
use Rattle.filtering.specs.declared.filter.Start.{Start}
use Rattle.filtering.specs.declared.filter.Start.TheVariants.{All, Changed}

-- The record i waits at first.
abbrev pub does_begin : List Record → Start → ℕ → Bool
does_begin rs All i = true
does_begin rs (Changed x) i = does_name rs i x

-- Where only the records wait at first that name x, the table differs from a stable one in the domain of x alone.
abbrev pub Begins : Problem → Start → Table → Type 0
Begins P All D = Unit {0}
Begins P (Changed x) D = (T : Table) × (P.stable T ≡ true) × ((y v : ℕ) → y ≢ x → D y v ≡ T y v)

-- Values are only taken away, and none that a table has which fits. Variables, width, saved tables and depth are as they were.
pub record Narrowed (P : Problem) (s t : TableState) : Type 0 where
  pub others : t ≡ with_domains s t.domains
  pub inside : Inside t.domains s.domains
  pub keeps : (S : Table) → Fits P s.domains S → Inside S t.domains

-- True: the table is filtered. False: it failed, and a domain is empty. Over a sound table filtering is never refused.
abbrev pub Filters : Problem → TableState → TableState → Result Bool TableFault → Type 0
Filters P s t (Ok true) = Narrowed P s t × Filtered P s.domains t.domains
Filters P s t (Ok false) = Narrowed P s t × NodeOf P s.domains failed × ((x : ℕ) × (x < P.variables) × Dead t.domains x)
Filters P s t (Err e) = ⊥

-- Whether no variable is without a value.
abbrev pub FilledUp : TableState → Result Bool TableFault → Type 0
FilledUp s (Ok true) = (x : ℕ) → x < s.variables → Alive s.domains x
FilledUp s (Ok false) = (x : ℕ) × (x < s.variables) × Dead s.domains x
FilledUp s (Err e) = ⊥

-- The set holds the records that name one of the variables of another set.
pub record NamesSome (rs : List Record) (variables records : ℕ → Bool) : Type 0 where
  pub some : (i : ℕ) → records i ≡ true → (x : ℕ) × (variables x ≡ true) × (does_name rs i x ≡ true)
  pub none : (i : ℕ) → records i ≡ false → (x : ℕ) → variables x ≡ true → does_name rs i x ≡ false
