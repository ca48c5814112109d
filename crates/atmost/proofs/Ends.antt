-- The least part of a term. Assumes nothing.
use Rattle.std.specs.Prelude.{◌≡◌, ℕ, ◌<◌, Bool, true, ℤ, pos, ◌*ℤ◌, ◌≤ℤ◌}
use Rattle.atmost.specs.Linear.{low}
use Rattle.atmost.specs.Ends.{end, end_is, end_larger, end_one}

-- the least part is that of a value, and none has a smaller one
pub low-is : (w : ℕ) (d : ℕ → Bool) (a : ℤ) (v : ℕ) → d v ≡ true → v < w → (d (end w d a) ≡ true) × (low w d a ≤ℤ (a *ℤ pos v))
low-is = end_is

-- a larger domain has a smaller least part
pub low_larger : (w : ℕ) (d e : ℕ → Bool) (a : ℤ) → ((v : ℕ) → d v ≡ true → e v ≡ true) → ((v : ℕ) → d v ≡ true → v < w) → (v : ℕ) → d v ≡ true → low w e a ≤ℤ low w d a
low_larger = end_larger

-- one value alone
pub low-one : (w : ℕ) (d : ℕ → Bool) (a : ℤ) (v : ℕ) → d v ≡ true → v < w → ((u : ℕ) → d u ≡ true → u ≡ v) → low w d a ≡ a *ℤ pos v
low-one = end_one
