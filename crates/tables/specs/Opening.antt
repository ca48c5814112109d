-- The table that is opened from a model's windows over a store. Assumes nothing.
use Rattle.std.specs.Prelude.{◌≡◌, ℕ, zero, suc, ◌<◌, ◌≤◌, min, Bool, false, ◌&&◌, List, [], ◌∷◌, length, take, nat_le, nat_lt, slice_index}
use Rattle.bits.specs.Bit.{has}
use Rattle.model.specs.declared.values.Window.{Window}
use Rattle.stores.specs.Rows.{Rows}
use Rattle.tables.specs.States.{TableState}
use Rattle.tables.specs.Words.{digits, meaning}

-- v is in the window
abbrev pub in_window : Window → ℕ → Bool
in_window w v = nat_le w.low v && nat_lt v w.high

-- the domain of the variable x is the window at the place x
abbrev pub windowed : List Window → ℕ → ℕ → Bool
windowed [] x v = false
windowed (w ∷ ws) zero v = in_window w v
windowed (w ∷ ws) (suc x) v = windowed ws x v

-- as many variables as there are windows and cells, no mark, and the store's depth
abbrev pub opened : List Window → Rows → TableState
opened ws s =
    let n = min (length ws) (length s.row) in
    record { variables = n; width = digits; domains = windowed (take n ws); saved = []; depth = s.depth }

-- the row that is left when every mark is restored
abbrev pub lowest : List ℕ → List (List ℕ) → List ℕ
lowest row [] = row
lowest row (r ∷ rs) = lowest r rs

-- every mark is restored
pub record Rewound (s t : Rows) : Type 0 where
  pub row : t.row ≡ lowest s.row s.saved
  pub long : length t.row ≡ length s.row
  pub saved : t.saved ≡ []
  pub depth : t.depth ≡ s.depth

-- the first n cells are the windows at their places, and all else is as it was
pub record Filled (ws : List Window) (n : ℕ) (s t : Rows) : Type 0 where
  pub cells : (x v : ℕ) → x < n → has (slice_index t.row x) v ≡ windowed ws x v
  pub rest : (x : ℕ) → n ≤ x → slice_index t.row x ≡ slice_index s.row x
  pub long : length t.row ≡ length s.row
  pub saved : t.saved ≡ s.saved
  pub depth : t.depth ≡ s.depth

-- a table of n variables, opened over a store that meant s and means t now
pub record Opened (ws : List Window) (s : Rows) (n : ℕ) (t : Rows) : Type 0 where
  pub means : meaning n t ≡ opened ws s
  -- cells past the variables are as every mark restored left them
  pub rest : (x : ℕ) → n ≤ x → slice_index t.row x ≡ slice_index (lowest s.row s.saved) x
  pub long : length t.row ≡ length s.row
