-- What is read of the front of the bytes alone. Assumes nothing.
use Rattle.std.specs.Prelude.{◌≡◌, ℕ, ◌≤◌, List, [], ◌∷◌, ◌++◌, length, refl}
use Rattle.std.proofs.Common.{arith}
use Rattle.model.specs.Reading.{window_at, term_at, variable_at}

-- Of so many bytes f reads the same, whatever stands behind them.
abbrev pub ReadsFront : {A : Type 0} → ℕ → (List ℕ → A) → Type 0
ReadsFront each f = (xs ys : List ℕ) → length xs ≡ each → f (xs ++ ys) ≡ f xs

pub window_front : ReadsFront 2 window_at
window_front [] ys h = absurd (omega arith)
window_front (a ∷ []) ys h = absurd (omega arith)
window_front (a ∷ b ∷ xs) ys h = refl

pub term_front : ReadsFront 3 term_at
term_front [] ys h = absurd (omega arith)
term_front (a ∷ []) ys h = absurd (omega arith)
term_front (a ∷ b ∷ []) ys h = absurd (omega arith)
term_front (a ∷ b ∷ c ∷ xs) ys h = refl

pub variable_front : (each : ℕ) → 1 ≤ each → ReadsFront each variable_at
variable_front each s [] ys h = absurd (omega arith)
variable_front each s (a ∷ xs) ys h = refl

pub listed_front : ReadsFront 1 variable_at
listed_front = variable_front 1 (omega arith)
