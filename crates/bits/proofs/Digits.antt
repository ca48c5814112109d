-- The digits of a word under the operations of a machine, and its first, last and number of digits 1. Assumes nothing.
use Rattle.std.proofs.Common.{◌≡◌, ℕ, zero, suc, ◌+◌, ◌-◌, ◌*◌, ◌/◌, ◌%◌, ◌^◌, ◌<◌, ◌≤◌, min, max, Bool, true, false, cond, not, ◌&&◌, ◌||◌, eqb, ltb, sym, refl, ap, ◌∙◌, subst, ap₂, ⊎_elim, le_of_suc-le-suc, mul_comm, pow-suc, div-one, arith, pow_pos}
use native.Mathlib.Nat.{div-div-eq-div-mul}
use lib.Bits.{bit_and, bit_or, and_step, or_step, and_shr, or_shr, and_mask}
use lib.Count.{ones, ones_in, ones_step, count_trailing_zeros, under, count_leading_zeros, leading_top}
use lib.Pow.{pow-lt}
use Rattle.std.proofs.lemmas.Bool.{both_ways, cases_eq, cases_lt, eq-eqb, ne_eqb, lt-ltb, le-ltb}
use Rattle.bits.specs.Bit.{bit, has, counted}

-- ---- digits as numbers

bit-zero : (v : ℕ) → bit 0 v ≡ 0
bit-zero zero = refl
bit-zero (suc v) = bit-zero v

bit_le : (n v : ℕ) → bit n v ≤ 1
bit_le n zero = omega arith
bit_le n (suc v) = bit_le (n / 2) v

bit-and : (a b v : ℕ) → bit (bit_and a b) v ≡ min (bit a v) (bit b v)
bit-and a b zero = omega (arith, and_step a b)
bit-and a b (suc v) = ap (λ n. bit n v) (and_shr a b 1) ∙ bit-and (a / 2) (b / 2) v

bit-or : (a b v : ℕ) → bit (bit_or a b) v ≡ max (bit a v) (bit b v)
bit-or a b zero = omega (arith, or_step a b)
bit-or a b (suc v) = ap (λ n. bit n v) (or_shr a b 1) ∙ bit-or (a / 2) (b / 2) v

pow_more : (k : ℕ) → 2 ^ suc k ≡ 2 ^ k * 2
pow_more k = pow-suc 2 k

bit_not : (k v a : ℕ) → a < 2 ^ k → v < k → bit (2 ^ k - 1 - a) v ≡ 1 - bit a v
bit_not zero v a h l = absurd (omega arith)
bit_not (suc k) zero a h l = omega (arith, pow_more k)
bit_not (suc k) (suc v) a h l =
    ap (λ n. bit n v) (omega (arith, pow_more k)) ∙ bit_not k v (a / 2) (omega (arith, pow_more k)) (omega arith)

bit-pow-same : (v : ℕ) → bit (2 ^ v) v ≡ 1
bit-pow-same zero = refl
bit-pow-same (suc v) = ap (λ n. bit n v) (omega (arith, pow_more v)) ∙ bit-pow-same v

bit-pow-other : (v u : ℕ) → (u ≡ v → ⊥) → bit (2 ^ v) u ≡ 0
bit-pow-other zero zero h = absurd (h refl)
bit-pow-other zero (suc u) h = bit-zero u
bit-pow-other (suc v) zero h = omega (arith, pow_more v)
bit-pow-other (suc v) (suc u) h = ap (λ n. bit n u) (omega (arith, pow_more v)) ∙ bit-pow-other v u (λ e. h (ap suc e))

bit_past : (k n u : ℕ) → n < 2 ^ k → k ≤ u → bit n u ≡ 0
bit_past zero n u h l = subst (λ m. bit m u ≡ 0) (omega arith) (bit-zero u)
bit_past (suc k) n zero h l = absurd (omega arith)
bit_past (suc k) n (suc u) h l = bit_past k (n / 2) u (omega (arith, pow_more k)) (omega arith)

-- ---- digits as members

is_digit : (d : ℕ) → d ≤ 1 → d ≡ cond (eqb d 1) 1 0
is_digit zero l = refl
is_digit (suc zero) l = refl
is_digit (suc (suc d)) l = absurd (omega arith)

bit-has : (n u : ℕ) → bit n u ≡ cond (has n u) 1 0
bit-has n u = is_digit (bit n u) (bit_le n u)

-- a word with no digit 1 has no member
pub has-zero : (u : ℕ) → has 0 u ≡ false
has-zero u = ap (λ d. eqb d 1) (bit-zero u)

pub has-and : (a b u : ℕ) → has (bit_and a b) u ≡ (has a u && has b u)
has-and a b u = ap (λ d. eqb d 1) (bit-and a b u ∙ ap₂ min (bit-has a u) (bit-has b u)) ∙ least (has a u) (has b u)
  where
    least : (p q : Bool) → eqb (min (cond p 1 0) (cond q 1 0)) 1 ≡ (p && q)
    least true true = refl
    least true false = refl
    least false true = refl
    least false false = refl

pub has-or : (a b u : ℕ) → has (bit_or a b) u ≡ (has a u || has b u)
has-or a b u = ap (λ d. eqb d 1) (bit-or a b u ∙ ap₂ max (bit-has a u) (bit-has b u)) ∙ most (has a u) (has b u)
  where
    most : (p q : Bool) → eqb (max (cond p 1 0) (cond q 1 0)) 1 ≡ (p || q)
    most true true = refl
    most true false = refl
    most false true = refl
    most false false = refl

-- `!a` among k digits
pub has-not : (k a u : ℕ) → a < 2 ^ k → u < k → has (2 ^ k - 1 - a) u ≡ not (has a u)
has-not k a u h l = ap (λ d. eqb d 1) (bit_not k u a h l ∙ ap (λ d. 1 - d) (bit-has a u)) ∙ other (has a u)
  where
    other : (p : Bool) → eqb (1 - cond p 1 0) 1 ≡ not p
    other true = refl
    other false = refl

-- `1 << v`
pub has-pow : (v u : ℕ) → has (2 ^ v) u ≡ eqb u v
has-pow v u = ⊎_elim
    (λ e. ap (λ d. eqb d 1) (ap (bit (2 ^ v)) e ∙ bit-pow-same v) ∙ sym (eq-eqb u v e))
    (λ d. ap (λ d. eqb d 1) (bit-pow-other v u d) ∙ sym (ne_eqb u v d))
    (cases_eq u v)

-- `(n >> v) & 1`
pub shifted_bit : (v n : ℕ) → bit_and (n / 2 ^ v) 1 ≡ bit n v
shifted_bit zero n = and_mask (n / 1) 1 ∙ ap (λ m. m % 2) (div-one n)
shifted_bit (suc v) n =
    ap (λ m. bit_and m 1) (ap (λ m. n / m) (pow-suc 2 v ∙ mul_comm (2 ^ v) 2) ∙ sym (div-div-eq-div-mul n 2 (2 ^ v))) ∙ shifted_bit v (n / 2)

-- a word of k digits has none from the place k on
pub has-past : (k n u : ℕ) → n < 2 ^ k → k ≤ u → has n u ≡ false
has-past k n u h l = ap (λ d. eqb d 1) (bit_past k n u h l)

pub member_below : (k n u : ℕ) → n < 2 ^ k → has n u ≡ true → u < k
member_below k n u h e = ⊎_elim (λ l. l) (λ l. absurd (both_ways (has n u) (has-past k n u h l) e)) (cases_lt u k)

-- the lowest k digits are 1
pub has_ones : (k u : ℕ) → has (2 ^ k - 1) u ≡ ltb u k
has_ones k u = ⊎_elim
    (λ l. ap (λ n. has n u) (omega arith) ∙ has-not k 0 u (pow_pos k) l ∙ ap not (has-zero u) ∙ sym (lt-ltb u k l))
    (λ l. has-past k (2 ^ k - 1) u (omega (arith, pow_pos k)) l ∙ sym (le-ltb u k l))
    (cases_lt u k)

-- two words of k digits with the same members are the same
pub same_members : (k a b : ℕ) → a < 2 ^ k → b < 2 ^ k → ((u : ℕ) → has a u ≡ has b u) → a ≡ b
same_members zero a b h l f = omega arith
same_members (suc k) a b h l f =
    let low : a % 2 ≡ b % 2 = bit-has a 0 ∙ ap (λ p. cond p 1 0) (f 0) ∙ sym (bit-has b 0) in
    let high : a / 2 ≡ b / 2 = same_members k (a / 2) (b / 2) (omega (arith, pow_more k)) (omega (arith, pow_more k)) (λ u. f (suc u)) in
    omega (arith, low, high)

-- `n & !(1 << v)` among k digits
pub has_cleared : (k n v u : ℕ) → n < 2 ^ k → v < k → has (bit_and n (2 ^ k - 1 - 2 ^ v)) u ≡ (has n u && not (eqb u v))
has_cleared k n v u h l = has-and n (2 ^ k - 1 - 2 ^ v) u ∙ ⊎_elim
    (λ m. ap (λ p. has n u && p) (has-not k (2 ^ v) u (pow-lt l) m ∙ ap not (has-pow v u)))
    (λ m. let e = has-past k n u h m in ap (λ p. p && has (2 ^ k - 1 - 2 ^ v) u) e ∙ ap (λ p. p && not (eqb u v)) (sym e))
    (cases_lt u k)

-- ---- the least and the greatest member

trailing_set : (k n : ℕ) → count_trailing_zeros k n < k → bit n (count_trailing_zeros k n) ≡ 1
unfolding count_trailing_zeros
trailing_set zero n h = absurd (omega arith)
trailing_set (suc k) n h = go (trailing_set k (n / 2)) (n % 2) refl h
  where
    go : (count_trailing_zeros k (n / 2) < k → bit (n / 2) (count_trailing_zeros k (n / 2)) ≡ 1)
        → (d : ℕ) → n % 2 ≡ d → under d (count_trailing_zeros k (n / 2)) < suc k → bit n (under d (count_trailing_zeros k (n / 2))) ≡ 1
    go ih zero e h = ih (le_of_suc-le-suc h)
    go ih (suc d) e h = omega (arith, e)

trailing_least : (k n u : ℕ) → u < count_trailing_zeros k n → bit n u ≡ 0
unfolding count_trailing_zeros
trailing_least zero n u h = absurd (omega arith)
trailing_least (suc k) n u h = go (trailing_least k (n / 2)) (n % 2) refl u h
  where
    go : ((w : ℕ) → w < count_trailing_zeros k (n / 2) → bit (n / 2) w ≡ 0)
        → (d : ℕ) → n % 2 ≡ d → (w : ℕ) → w < under d (count_trailing_zeros k (n / 2)) → bit n w ≡ 0
    go ih zero e zero h = e
    go ih zero e (suc w) h = ih w (le_of_suc-le-suc h)
    go ih (suc d) e w h = absurd (omega arith)

trailing_lt : (k n : ℕ) → 0 < n → n < 2 ^ k → count_trailing_zeros k n < k
unfolding count_trailing_zeros
trailing_lt zero n p h = absurd (omega arith)
trailing_lt (suc k) n p h = go (λ q. trailing_lt k (n / 2) q (omega (arith, pow_more k))) (n % 2) refl
  where
    go : (0 < n / 2 → count_trailing_zeros k (n / 2) < k) → (d : ℕ) → n % 2 ≡ d → under d (count_trailing_zeros k (n / 2)) < suc k
    go ih zero e = let l = ih (omega (arith, e)) in omega (arith, l)
    go ih (suc d) e = omega arith

bit-top : (j n : ℕ) → 2 ^ j ≤ n → n < 2 ^ suc j → bit n j ≡ 1
bit-top zero n l h = omega arith
bit-top (suc j) n l h = bit-top j (n / 2) (omega (arith, pow_more j)) (omega (arith, pow_more (suc j)))

-- the least member of a word that is not 0 is the number of its trailing zeros
pub trailing_is_least : (k n : ℕ) → (n ≡ 0 → ⊥) → n < 2 ^ k → (has n (count_trailing_zeros k n) ≡ true) × ((u : ℕ) → u < count_trailing_zeros k n → has n u ≡ false)
trailing_is_least k n f h =
    (ap (λ d. eqb d 1) (trailing_set k n (trailing_lt k n (omega (arith, f)) h)), λ u l. ap (λ d. eqb d 1) (trailing_least k n u l))

-- the greatest is the last place less the number of its leading zeros
pub leading_is_greatest : (k n : ℕ) → (n ≡ 0 → ⊥) → n < 2 ^ k
    → (has n (k - 1 - count_leading_zeros k n) ≡ true) × ((u : ℕ) → k - 1 - count_leading_zeros k n < u → has n u ≡ false)
leading_is_greatest k n f h =
    let t = leading_top k n (omega (arith, f)) h in
    let e : t.0 ≡ k - 1 - count_leading_zeros k n = omega (arith, t.1) in (
      ap (λ d. eqb d 1) (subst (λ j. bit n j ≡ 1) e (bit-top t.0 n t.2 t.3)),
      λ u l. has-past (suc t.0) n u t.3 (omega (arith, t.1)),
    )

under_pow : (n : ℕ) → n < 2 ^ n
under_pow zero = omega arith
under_pow (suc n) = omega (arith, under_pow n, pow_more n)

-- a word that is not 0 has a member
pub some_member : (n : ℕ) → (n ≡ 0 → ⊥) → (u : ℕ) × (has n u ≡ true)
some_member n f = (count_trailing_zeros n n, (trailing_is_least n n f (under_pow n)).0)

-- ---- how many members

counted-first : (d : ℕ → Bool) (k : ℕ) → counted d (suc k) ≡ cond (d 0) 1 0 + counted (λ v. d (suc v)) k
unfolding counted
counted-first d zero = by (d 0)
  where
    by : (b : Bool) → cond b 1 0 ≡ cond b 1 0 + 0
    by true = refl
    by false = refl
counted-first d (suc k) = by (d (suc k)) (counted-first d k)
  where
    by : (b : Bool) → counted d (suc k) ≡ cond (d 0) 1 0 + counted (λ v. d (suc v)) k
        → cond b (suc (counted d (suc k))) (counted d (suc k)) ≡ cond (d 0) 1 0 + cond b (suc (counted (λ v. d (suc v)) k)) (counted (λ v. d (suc v)) k)
    by true e = omega (arith, e)
    by false e = omega (arith, e)

ones_zero : ones 0 ≡ 0
unfolding ones ones_in
ones_zero = refl

-- the number of digits 1 is the number of members
pub ones_counted : (k n : ℕ) → n < 2 ^ k → ones n ≡ counted (has n) k
unfolding counted
ones_counted zero n h = ap ones (omega arith) ∙ ones_zero
ones_counted (suc k) n h =
    ones_step n ∙ ap₂ ◌+◌ (bit-has n 0) (ones_counted k (n / 2) (omega (arith, pow_more k))) ∙ sym (counted-first (has n) k)
