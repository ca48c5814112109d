-- All different: no two listed variables are equal. Assumes nothing.
use Rattle.std.specs.Prelude.{◌≡◌, ℕ, ◌<◌, Bool, true, not, ◌&&◌, ◌||◌, ◌≢◌, ◌↔◌, List, [], ◌∷◌, ◌==◌, slice_index}
use Rattle.tree.specs.Tables.{Table}
use Rattle.tree.specs.Domains.{every}
use Rattle.model.specs.Values.{Record, at_most, different}
use Rattle.model.specs.Reading.{among}

-- All of the list pass the test f.
abbrev pub each : List ℕ → (ℕ → Bool) → Bool
each [] f = true
each (x ∷ xs) f = f x && each xs f

-- Any two of the list that are not the same pass the test f.
abbrev pub pairs : List ℕ → (ℕ → ℕ → Bool) → Bool
pairs xs f = each xs (λ x. each xs (λ y. (x == y) || f x y))

-- v is the only value of x.
abbrev pub lone : ℕ → Table → ℕ → ℕ → Bool
lone w T x v = T x v && every w (λ u. not (T x u) || u == v)

-- If x is single, its value is not in the domain of y.
abbrev pub apart : ℕ → Table → ℕ → ℕ → Bool
apart w T x y = every w (λ v. not (lone w T x v && T y v))

-- The value of a single listed variable is in no other listed domain.
abbrev pub stable : ℕ → Record → Table → Bool
stable w (at_most bound terms) T = true
stable w (different xs) T = pairs xs (apart w T)

-- No two listed variables are equal.
abbrev pub meets : Record → List ℕ → Bool
meets (at_most bound terms) a = true
meets (different xs) a = pairs xs (λ x y. not (slice_index a x == slice_index a y))

-- The test of stability in plain words, for a table of values below w.
abbrev pub Apart : List ℕ → Table → Type 0
Apart xs T =
    (x y v : ℕ) → among x xs ≡ true → among y xs ≡ true → x ≢ y → T x v ≡ true → ((u : ℕ) → T x u ≡ true → u ≡ v) → T y v ≢ true

abbrev pub ReadsLikeTheRule : Type 0
ReadsLikeTheRule = (w : ℕ) (xs : List ℕ) (T : Table) → ((x v : ℕ) → T x v ≡ true → v < w) → (stable w (different xs) T ≡ true) ↔ Apart xs T
