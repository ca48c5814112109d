-- What a row of cells means as a domain table: the domain of a variable is the set of its cell's digits 1. Assumes nothing.
use Rattle.std.specs.Prelude.{◌≡◌, ℕ, ◌<◌, ◌≤◌, ◌&&◌, ◌⊎◌, List, [], ◌∷◌, map, length, Ok, Err, Result, nat_lt, slice_index, refl}
use Rattle.std.proofs.Common.{arith}
use Rattle.std.proofs.lemmas.Bool.{and_parts, ltb-true}
use Rattle.bits.specs.Bit.{has}
use Rattle.bits.specs.declared.Set.{Set}
use Rattle.stores.specs.Rows.{Rows}
use Rattle.tree.specs.Tables.{Table}
use Rattle.tables.specs.States.{TableState, Within, AllWithin, Bounds}
use Rattle.tables.specs.Calls.{number, place}
use Rattle.tables.specs.declared.table.TableFault.{TableFault}

-- the number of digits of a cell; shut, so that no proof counts them one by one
unfoldable pub digits : ℕ
digits = 64

pub digits_are : digits ≡ 64
unfolding digits
digits_are = refl

-- n variables with values below w: v is in the domain of x where the digit v of the cell x is 1
abbrev pub domains_of : ℕ → ℕ → List ℕ → Table
domains_of n w cells = λ x v. (nat_lt x n && nat_lt v w) && has (slice_index cells x) v

-- what a store means as a table of n variables
abbrev pub meaning : ℕ → Rows → TableState
meaning n r = record { variables = n; width = digits; domains = domains_of n digits r.row; saved = map (domains_of n digits) r.saved; depth = r.depth }

-- there are few variables, and a cell for each
pub record Room (n : ℕ) (r : Rows) : Type 0 where
  pub few : n ≤ 64
  pub cells : n ≤ length r.row

-- the cell of the variable x, which is its domain
abbrev pub Cell : ℕ → List ℕ → ℕ → Result Set TableFault → Type 0
Cell n cells x (Ok c) = (x < n) × (c.word ≡ slice_index cells x) × (has c.word ≡ domains_of n digits cells x)
Cell n cells x (Err e) = (n ≤ x) × (number e ≡ 21) × (place e ≡ x)

-- the same where v is a value
abbrev pub CellFor : ℕ → List ℕ → ℕ → ℕ → Result Set TableFault → Type 0
CellFor n cells x v (Ok c) = (v < digits) × Cell n cells x (Ok c)
CellFor n cells x v (Err e) = ((n ≤ x) ⊎ (digits ≤ v)) × (number e ≡ 21) × (place e ≡ x)

domains-within : (n w : ℕ) (cells : List ℕ) → Within n w (domains_of n w cells)
domains-within n w cells x v h =
    let p = and_parts (nat_lt x n && nat_lt v w) (has (slice_index cells x) v) h in
    let q = and_parts (nat_lt x n) (nat_lt v w) p.0 in
    (ltb-true x n q.0, ltb-true v w q.1)

all_within : (n w : ℕ) (rows : List (List ℕ)) → AllWithin n w (map (domains_of n w) rows)
all_within n w [] = tt
all_within n w (row ∷ rows) = (domains-within n w row, all_within n w rows)

pub words_bounded : (n : ℕ) (r : Rows) → Room n r → Bounds (meaning n r)
words_bounded n r room = record {
  few = room.few;
  narrow = omega (arith, digits_are);
  within = domains-within n digits r.row;
  saved_within = all_within n digits r.saved;
}
