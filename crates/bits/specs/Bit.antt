-- The digits of a word in base two, and the word as a set of numbers: those places at which its digit is 1. Assumes nothing.
use Rattle.std.specs.Prelude.{◌≡◌, ℕ, zero, suc, ◌/◌, ◌%◌, ◌<◌, Bool, true, false, cond, List, [], ◌∷◌, Some, None, Option, ◌==◌}

-- the digit of n at the place v, 0 or 1
abbrev pub bit : ℕ → ℕ → ℕ
bit n zero = n % 2
bit n (suc v) = bit (n / 2) v

-- v is a member of the word n
abbrev pub has : ℕ → ℕ → Bool
has n v = bit n v == 1

-- how many numbers below k are members of d
unfoldable pub counted : (ℕ → Bool) → ℕ → ℕ
counted d zero = 0
counted d (suc k) = cond (d k) (suc (counted d k)) (counted d k)

-- the members of d among the n numbers from x on, from the least on
abbrev pub rising : (ℕ → Bool) → ℕ → ℕ → List ℕ
rising d x zero = []
rising d x (suc n) = cond (d x) (x ∷ rising d (suc x) n) (rising d (suc x) n)

-- the members of a word of 64 digits
unfoldable pub members : ℕ → List ℕ
members word = rising (has word) 0 64

-- no number is a member of d
abbrev pub Empty : (ℕ → Bool) → Type 0
Empty d = (u : ℕ) → d u ≡ false

-- the least member of d, or none where d is empty
abbrev pub Least : (ℕ → Bool) → Option ℕ → Type 0
Least d (Some v) = (d v ≡ true) × ((u : ℕ) → u < v → d u ≡ false)
Least d None = Empty d

-- the greatest member of d, or none where d is empty
abbrev pub Greatest : (ℕ → Bool) → Option ℕ → Type 0
Greatest d (Some v) = (d v ≡ true) × ((u : ℕ) → v < u → d u ≡ false)
Greatest d None = Empty d
