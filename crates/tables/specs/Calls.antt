-- The faults of a domain table, and what each of its calls answers and does. Assumes nothing.
use Rattle.std.specs.Prelude.{◌≡◌, ℕ, ◌<◌, ◌≤◌, Bool, not, ◌&&◌, ◌⊎◌, ◌∷◌, length, Ok, Err, Option, Result, ◌==◌}
use Rattle.bits.specs.Bit.{has, Least, Greatest}
use Rattle.bits.specs.declared.Set.{Set}
use Rattle.stores.specs.Rows.{number as store-number, place as store-place}
use Rattle.stores.specs.declared.store.StoreFault.TheVariants.{Deep, NoMark}
use Rattle.tree.specs.Tables.{kept, dropped}
use Rattle.tree.specs.Domains.{has_some, size}
use Rattle.tables.specs.States.{TableState, with_domains, with_saved}
use Rattle.tables.specs.declared.table.TableFault.{TableFault}
use Rattle.tables.specs.declared.table.TableFault.TheVariants.{NoSuch, Store}

-- the published number of a fault, and its place: those of the store's fault where it holds one
abbrev pub number : TableFault → ℕ
number (NoSuch x) = 21
number (Store e) = store-number e

abbrev pub place : TableFault → ℕ
place (NoSuch x) = x
place (Store e) = store-place e

-- there is no variable x
abbrev pub NoVariable : TableState → ℕ → TableFault → Type 0
NoVariable s x e = (s.variables ≤ x) × (number e ≡ 21) × (place e ≡ x)

-- there is no variable x, or no value v
abbrev pub NoPair : TableState → ℕ → ℕ → TableFault → Type 0
NoPair s x v e = ((s.variables ≤ x) ⊎ (s.width ≤ v)) × (number e ≡ 21) × (place e ≡ x)

-- whether v is in the domain of x
abbrev pub Tells : TableState → ℕ → ℕ → Result Bool TableFault → Type 0
Tells s x v (Ok b) = (x < s.variables) × (v < s.width) × (b ≡ s.domains x v)
Tells s x v (Err e) = NoPair s x v e

-- the domain of x, as a set
abbrev pub Shows : TableState → ℕ → Result Set TableFault → Type 0
Shows s x (Ok d) = (x < s.variables) × (has d.word ≡ s.domains x)
Shows s x (Err e) = NoVariable s x e

-- how many values are in the domain of x
abbrev pub Sizes : TableState → ℕ → Result ℕ TableFault → Type 0
Sizes s x (Ok n) = (x < s.variables) × (n ≡ size (s.domains x) s.width)
Sizes s x (Err e) = NoVariable s x e

-- the ends of the domain of x, none where it is empty
abbrev pub Leasts : TableState → ℕ → Result (Option ℕ) TableFault → Type 0
Leasts s x (Ok o) = (x < s.variables) × Least (s.domains x) o
Leasts s x (Err e) = NoVariable s x e

abbrev pub Greatests : TableState → ℕ → Result (Option ℕ) TableFault → Type 0
Greatests s x (Ok o) = (x < s.variables) × Greatest (s.domains x) o
Greatests s x (Err e) = NoVariable s x e

-- v is dropped from the domain of x; the answer is whether it was there
abbrev pub Drops : TableState → ℕ → ℕ → TableState → Result Bool TableFault → Type 0
Drops s x v t (Ok b) = (x < s.variables) × (v < s.width) × (t ≡ with_domains s (dropped x v s.domains)) × (b ≡ s.domains x v)
Drops s x v t (Err e) = NoPair s x v e

-- of the domain of x only v is kept; the answer is whether another value was there
abbrev pub KeepsOnly : TableState → ℕ → ℕ → TableState → Result Bool TableFault → Type 0
KeepsOnly s x v t (Ok b) = (x < s.variables) × (v < s.width) × (t ≡ with_domains s (kept x v s.domains)) × (b ≡ has_some (λ u. s.domains x u && not (u == v)) s.width)
KeepsOnly s x v t (Err e) = NoPair s x v e

-- the table is saved
abbrev pub Marks : TableState → TableState → Result Unit TableFault → Type 0
Marks s t (Ok u) = (length s.saved < s.depth) × (t ≡ with_saved s (s.domains ∷ s.saved))
Marks s t (Err e) = (s.depth ≤ length s.saved) × (number e ≡ 12) × (place e ≡ length s.saved) × (e ≡ Store (Deep (length s.saved)))

-- the table saved last comes back
abbrev pub Restores : TableState → TableState → Result Unit TableFault → Type 0
Restores s t (Ok u) = (s.saved ≡ t.domains ∷ t.saved) × (t.variables ≡ s.variables) × (t.width ≡ s.width) × (t.depth ≡ s.depth)
Restores s t (Err e) = (length s.saved ≡ 0) × (number e ≡ 13) × (place e ≡ 0) × (e ≡ Store NoMark)
