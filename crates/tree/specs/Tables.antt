-- Tables: the domain of each variable, as one set of pairs. Assumes nothing.
use Rattle.std.specs.Prelude.{◌≡◌, ℕ, Bool, true, not, ◌&&◌, ◌||◌, ◌≢◌, List, length, ◌==◌, nat_lt, slice_index}

-- A table is a set of pairs of a variable and a value: `T x v ≡ true` says that v is in the domain of x. A variable that the
-- table does not have is one without a value.
abbrev pub Table : Type 0
Table = ℕ → ℕ → Bool

-- Each domain of S is a part of the same domain of T.
abbrev pub Inside : Table → Table → Type 0
Inside S T = (x v : ℕ) → S x v ≡ true → T x v ≡ true

-- The variable x has two values or more.
pub record Open (T : Table) (x : ℕ) : Type 0 where
  pub one : ℕ
  pub other : ℕ
  pub apart : one ≢ other
  pub has_one : T x one ≡ true
  pub has_other : T x other ≡ true

-- What can be decided: the variable x is open, and v is in its domain.
pub record Choice (T : Table) (x v : ℕ) : Type 0 where
  pub is_open : Open T x
  pub has : T x v ≡ true

-- Domain by domain, the values of S and those of T.
abbrev pub join : Table → Table → Table
join S T = λ x v. S x v || T x v

-- Of the domain of x only v is kept, and nothing if v was not in it.
abbrev pub kept : ℕ → ℕ → Table → Table
kept x v T = λ y u. T y u && (not (y == x) || u == v)

-- The value v is dropped from the domain of x.
abbrev pub dropped : ℕ → ℕ → Table → Table
dropped x v T = λ y u. T y u && not (y == x && u == v)

-- The table of single values: the domain of x holds what stands at x in a, and nothing else.
abbrev pub single : List ℕ → Table
single a = λ x v. nat_lt x (length a) && v == slice_index a x
