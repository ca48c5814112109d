-- What a domain table means. Assumes nothing.
use Rattle.std.specs.Prelude.{◌≡◌, ℕ, ◌<◌, ◌≤◌, true, List, [], ◌∷◌}
use Rattle.tree.specs.Tables.{Table}

pub record TableState : Type 0 where
  pub variables : ℕ
  -- every value lies below it
  pub width : ℕ
  pub domains : Table
  -- the table at each standing mark, newest first
  pub saved : List Table
  -- the most marks that can stand at a time
  pub depth : ℕ

-- the same with other domains
abbrev pub with_domains : TableState → Table → TableState
with_domains s T = record { variables = s.variables; width = s.width; domains = T; saved = s.saved; depth = s.depth }

-- the same with another stack of saved tables
abbrev pub with_saved : TableState → List Table → TableState
with_saved s Ts = record { variables = s.variables; width = s.width; domains = s.domains; saved = Ts; depth = s.depth }

-- T has no other variables than those below n, and no other values than those below w
abbrev pub Within : ℕ → ℕ → Table → Type 0
Within n w T = (x v : ℕ) → T x v ≡ true → (x < n) × (v < w)

abbrev pub AllWithin : ℕ → ℕ → List Table → Type 0
AllWithin n w [] = Unit {0}
AllWithin n w (T ∷ Ts) = Within n w T × AllWithin n w Ts

-- What holds of every sound table. Its depth is not bounded.
pub record Bounds (s : TableState) : Type 0 where
  pub few : s.variables ≤ 64
  pub narrow : s.width ≤ 64
  pub within : Within s.variables s.width s.domains
  pub saved_within : AllWithin s.variables s.width s.saved
