-- Marks of a store one after another, as a function. Assumes nothing.
use Rattle.std.specs.Prelude.{◌≡◌, ℕ, zero, suc, Bool, true, false, cond, ◌&&◌, ◌∷◌, length, Ok, Err, Result, ◌==◌, nat_lt}
use Rattle.stores.specs.Rows.{Rows, Marks, number}
use Rattle.stores.specs.declared.store.StoreFault.{StoreFault}

-- What one mark does: the rows after it, or the number of its refusal.
abbrev pub marked : Rows → Result Rows ℕ
marked s = cond (nat_lt (length s.saved) s.depth) (Ok (record { row = s.row; saved = s.row ∷ s.saved; depth = s.depth })) (Err 12)

abbrev pub Same : Result Rows ℕ → Rows → Result Unit StoreFault → Type 0
Same (Ok s) t (Ok u) = t ≡ s
Same (Ok s) t (Err e) = ⊥
Same (Err n) t (Ok u) = ⊥
Same (Err n) t (Err e) = number e ≡ n

-- Whatever a mark may do, this is what it does.
abbrev pub MarksCompute : Type 0
MarksCompute = (s t : Rows) (r : Result Unit StoreFault) → Marks s t r → Same (marked s) t r

-- So many marks.
abbrev pub and_mark : Result Rows ℕ → Result Rows ℕ
and_mark (Ok s) = marked s
and_mark (Err n) = Err n

abbrev pub marks : ℕ → Rows → Result Rows ℕ
marks zero s = Ok s
marks (suc k) s = and_mark (marks k s)

abbrev pub is_accepted : Result Rows ℕ → Bool
is_accepted (Ok s) = true
is_accepted (Err n) = false

abbrev pub is_refused : ℕ → Result Rows ℕ → Bool
is_refused n (Ok s) = false
is_refused n (Err m) = m == n

-- As many marks as k are accepted, and the next is refused with the number n.
abbrev pub stops_after : ℕ → ℕ → Rows → Bool
stops_after k n s = is_accepted (marks k s) && is_refused n (marks (suc k) s)
