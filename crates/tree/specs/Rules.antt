-- Two branching rules, each as a relation and as a function. Assumes nothing.
use Rattle.std.specs.Prelude.{◌≡◌, ℕ, zero, suc, ◌<◌, ◌≤◌, true, cond, ◌⊎◌, Some, None, Option, nat_lt}
use Rattle.tree.specs.Tables.{Table, Open, Choice}
use Rattle.tree.specs.Domains.{size, least, greatest}
use Rattle.tree.specs.Search.{Rule}
use Rattle.tree.specs.Find.{is_full}

-- The rule `first`: x is the lowest open variable, and v its least value.
pub record First (T : Table) (x v : ℕ) : Type 0 where
  pub choice : Choice T x v
  pub lowest : (y : ℕ) → Open T y → x ≤ y
  pub least : (u : ℕ) → T x u ≡ true → v ≤ u

-- The rule `small`: x is the open variable of smallest size, the lowest at equal size, and v its greatest value.
pub record Small (w : ℕ) (T : Table) (x v : ℕ) : Type 0 where
  pub choice : Choice T x v
  pub smallest : (y : ℕ) → Open T y → (size (T x) w < size (T y) w) ⊎ ((size (T x) w ≡ size (T y) w) × (x ≤ y))
  pub greatest : (u : ℕ) → T x u ≡ true → u ≤ v

-- Of the k variables from x on the lowest open one.
abbrev pub lowest : ℕ → Table → ℕ → ℕ → Option ℕ
lowest w T x zero = None
lowest w T x (suc k) = let later = lowest w T (suc x) k in cond (nat_lt 1 (size (T x) w)) (Some x) later

-- Of x and a variable above it, if there is one, that of smaller size, and x at equal size.
abbrev pub smaller : ℕ → Table → ℕ → Option ℕ → ℕ
smaller w T x None = x
smaller w T x (Some y) = cond (nat_lt (size (T y) w) (size (T x) w)) y x

-- Of the k variables from x on the open one of smallest size, the lowest at equal size.
abbrev pub smallest : ℕ → Table → ℕ → ℕ → Option ℕ
smallest w T x zero = None
smallest w T x (suc k) = let later = smallest w T (suc x) k in cond (nat_lt 1 (size (T x) w)) (Some (smaller w T x later)) later

-- A variable, if there is one, with the value that goes with it.
abbrev pub paired : (ℕ → ℕ) → Option ℕ → Option (ℕ × ℕ)
paired value None = None
paired value (Some x) = Some (x, value x)

-- The rules for n variables with values below w. A table with an empty domain gets none.
abbrev pub first : ℕ → ℕ → Rule
first n w T = cond (is_full n w T) (paired (λ x. least (T x) 0 w) (lowest w T 0 n)) None

abbrev pub small : ℕ → ℕ → Rule
small n w T = cond (is_full n w T) (paired (λ x. greatest (T x) w) (smallest w T 0 n)) None
