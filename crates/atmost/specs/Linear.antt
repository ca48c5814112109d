-- At most: the sum of coefficient times variable is at most the bound. Assumes nothing.
use Rattle.std.specs.Prelude.{◌≡◌, ℕ, zero, suc, ◌<◌, ◌≤◌, Bool, true, cond, not, ◌||◌, ◌↔◌, List, [], ◌∷◌, map, length, ℤ, pos, ◌+ℤ◌, ◌*ℤ◌, ◌≤ℤ◌, int_le, int_lt, slice_index, slice_index_or}
use Rattle.tree.specs.Tables.{Table}
use Rattle.tree.specs.Domains.{every, least, greatest}
use Rattle.model.specs.declared.values.Term.{Term}
use Rattle.model.specs.Values.{Record, at_most, different}
use Rattle.model.specs.Reading.{among}

-- The lowest that the coefficient a times a value of the domain d can be, of values below w: a times the least value, or, where a
-- is negative, a times the greatest.
abbrev pub low : ℕ → (ℕ → Bool) → ℤ → ℤ
low w d a = a *ℤ pos (cond (int_lt a (pos 0)) (greatest d w) (least d 0 w))

-- The sum of the lows of all terms.
abbrev pub lows : ℕ → Table → List Term → ℤ
lows w S [] = pos 0
lows w S (t ∷ ts) = low w (S t.variable) t.coefficient +ℤ lows w S ts

abbrev pub no_term : Term
no_term = record { variable = 0; coefficient = pos 0 }

-- The term that stands at k.
abbrev pub term : List Term → ℕ → Term
term ts k = slice_index_or ts k no_term

-- All terms but the one at k.
abbrev pub others : List Term → ℕ → List Term
others [] k = []
others (t ∷ ts) zero = ts
others (t ∷ ts) (suc k) = t ∷ others ts k

-- Some term has the variable x.
abbrev pub listed : List Term → ℕ → Bool
listed ts x = among x (map (λ t. t.variable) ts)

-- The term at k with the value v, and the lows of all other terms, are together within the bound.
abbrev pub within : ℕ → List Term → ℤ → Table → ℕ → ℕ → Bool
within w ts b S k v = int_le ((term ts k).coefficient *ℤ pos v +ℤ lows w S (others ts k)) b

abbrev pub all_within : ℕ → List Term → ℤ → Table → Bool
all_within w ts b S = every (length ts) (λ k. every w (λ v. not (S (term ts k).variable v) || within w ts b S k v))

-- Each value of each term is within the bound, with the lows of all other terms.
abbrev pub stable : ℕ → Record → Table → Bool
stable w (at_most b ts) S = all_within w ts b S
stable w (different xs) S = true

abbrev pub sum : List Term → List ℕ → ℤ
sum [] a = pos 0
sum (t ∷ ts) a = t.coefficient *ℤ pos (slice_index a t.variable) +ℤ sum ts a

-- The sum of coefficient times value is at most the bound.
abbrev pub meets : Record → List ℕ → Bool
meets (at_most b ts) a = int_le (sum ts a) b
meets (different xs) a = true

-- The test of stability in plain words.
abbrev pub WithinBound : ℕ → List Term → ℤ → Table → Type 0
WithinBound w ts b S = (k : ℕ) → k < length ts → (v : ℕ) → v < w → S (term ts k).variable v ≡ true → ((term ts k).coefficient *ℤ pos v +ℤ lows w S (others ts k)) ≤ℤ b

pub record ReadsLikeTheRule : Type 0 where
  pub rule : (w : ℕ) (ts : List Term) (b : ℤ) (S : Table) → (stable w (at_most b ts) S ≡ true) ↔ WithinBound w ts b S
  -- low goes by the least value for a coefficient from 0 up, and else by the greatest, and these are the ends of the domain
  pub up : (w : ℕ) (d : ℕ → Bool) (a : ℤ) → pos 0 ≤ℤ a → low w d a ≡ a *ℤ pos (least d 0 w)
  pub down : (w : ℕ) (d : ℕ → Bool) (a : ℤ) → int_lt a (pos 0) ≡ true → low w d a ≡ a *ℤ pos (greatest d w)
  pub first : (w : ℕ) (d : ℕ → Bool) (v : ℕ) → v < w → d v ≡ true → (d (least d 0 w) ≡ true) × (least d 0 w ≤ v)
  pub last : (w : ℕ) (d : ℕ → Bool) (v : ℕ) → v < w → d v ≡ true → (d (greatest d w) ≡ true) × (v ≤ greatest d w)
