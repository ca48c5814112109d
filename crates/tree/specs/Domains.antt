-- Questions about one domain, of which the values below w are asked. Assumes nothing.
use Rattle.std.specs.Prelude.{ℕ, zero, suc, Bool, true, false, cond, ◌&&◌, ◌||◌}

-- Some number below w passes the test d.
abbrev pub has_some : (ℕ → Bool) → ℕ → Bool
has_some d zero = false
has_some d (suc w) = d w || has_some d w

-- All numbers below n pass the test f.
abbrev pub every : ℕ → (ℕ → Bool) → Bool
every zero f = true
every (suc n) f = f n && every n f

-- How many values below w are in d.
abbrev pub size : (ℕ → Bool) → ℕ → ℕ
size d zero = 0
size d (suc w) = cond (d w) (suc (size d w)) (size d w)

-- The least of the k values from v on that is in d, if one is; `least d 0 w` is the least value below w.
abbrev pub least : (ℕ → Bool) → ℕ → ℕ → ℕ
least d v zero = v
least d v (suc k) = let later = least d (suc v) k in cond (d v) v later

-- The greatest value below w that is in d, if one is.
abbrev pub greatest : (ℕ → Bool) → ℕ → ℕ
greatest d zero = 0
greatest d (suc w) = cond (d w) w (greatest d w)
