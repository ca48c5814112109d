-- The ends of a domain, and the least part of a term. Assumes nothing.
use Rattle.std.specs.Prelude.{◌≡◌, ℕ, zero, suc, ◌*◌, ◌<◌, ◌≤◌, Bool, true, false, cond, List, [], ◌∷◌, length, ℤ, pos, negsuc, ◌+ℤ◌, ◌*ℤ◌, ◌≤ℤ◌, int_lt, refl}
use Rattle.std.proofs.Common.{sym, ap, ◌∙◌, subst, ⊎_elim, arith, mul-le-mul_left}
use borrow.Author.Differences.{up, down}
use Rattle.std.proofs.lemmas.Int.{ints}
use Rattle.std.proofs.lemmas.Bool.{cases_Bool, cond-true, cond-false, both_ways}
use Rattle.tree.specs.Tables.{Table}
use Rattle.tree.specs.Domains.{least, greatest}
use Rattle.model.specs.declared.values.Term.{Term}
use Rattle.tree.proofs.Domains.{least-bottom, greatest-top}
use Rattle.atmost.specs.Linear.{low, lows, term, others}

-- products grow with the value, or, if the coefficient is negative, fall
pub mul-up : (a : ℤ) (m n : ℕ) → int_lt a (pos 0) ≡ false → m ≤ n → (a *ℤ pos m) ≤ℤ (a *ℤ pos n)
mul-up a m n e l =
    let z : down a ≤ up a = omega (arith, ints) in
    let f = mul-le-mul_left (up a) l in
    let s : down a ≡ 0 = zero_down a e in
    let g : down a * m ≡ 0 = ap (λ (k : ℕ). k * m) s ∙ omega arith in
    let h : down a * n ≡ 0 = ap (λ (k : ℕ). k * n) s ∙ omega arith in
    omega (arith, ints)
  where
    zero_down : (a : ℤ) → int_lt a (pos 0) ≡ false → down a ≡ 0
    zero_down (pos k) e = refl
    zero_down (negsuc k) e = absurd (both_ways true e refl)

pub mul_down : (a : ℤ) (m n : ℕ) → int_lt a (pos 0) ≡ true → m ≤ n → (a *ℤ pos n) ≤ℤ (a *ℤ pos m)
mul_down a m n e l =
    let f = mul-le-mul_left (down a) l in
    let s : up a ≡ 0 = zero-up a e in
    let g : up a * m ≡ 0 = ap (λ (k : ℕ). k * m) s ∙ omega arith in
    let h : up a * n ≡ 0 = ap (λ (k : ℕ). k * n) s ∙ omega arith in
    omega (arith, ints)
  where
    zero-up : (a : ℤ) → int_lt a (pos 0) ≡ true → up a ≡ 0
    zero-up (pos k) e = omega (arith, ints)
    zero-up (negsuc k) e = refl

abbrev pub end : ℕ → (ℕ → Bool) → ℤ → ℕ
end w d a = cond (int_lt a (pos 0)) (greatest d w) (least d 0 w)

-- at the end of the domain the part is that of a value, and none has a smaller one
pub end_is : (w : ℕ) (d : ℕ → Bool) (a : ℤ) (v : ℕ) → d v ≡ true → v < w → (d (end w d a) ≡ true) × ((a *ℤ pos (end w d a)) ≤ℤ (a *ℤ pos v))
end_is w d a v h l = ⊎_elim
    (λ e. let p = greatest-top d w v l h in
    subst (λ (z : ℕ). (d z ≡ true) × ((a *ℤ pos z) ≤ℤ (a *ℤ pos v))) (sym (cond-true (int_lt a (pos 0)) (greatest d w) (least d 0 w) e)) (p.0, mul_down a v (greatest d w) e p.2))
    (λ e. let p = least-bottom d 0 w v (omega arith) (omega arith) h in
    subst (λ (z : ℕ). (d z ≡ true) × ((a *ℤ pos z) ≤ℤ (a *ℤ pos v))) (sym (cond-false (int_lt a (pos 0)) (greatest d w) (least d 0 w) e)) (p.0, mul-up a (least d 0 w) v e p.1))
    (cases_Bool (int_lt a (pos 0)))

-- a larger domain has a smaller part at its end
pub end_larger : (w : ℕ) (d e : ℕ → Bool) (a : ℤ) → ((v : ℕ) → d v ≡ true → e v ≡ true) → ((v : ℕ) → d v ≡ true → v < w) → (v : ℕ) → d v ≡ true → (a *ℤ pos (end w e a)) ≤ℤ (a *ℤ pos (end w d a))
end_larger w d e a ins small v h =
    let p = (end_is w d a v h (small v h)).0 in
    (end_is w e a (end w d a) (ins (end w d a) p) (small (end w d a) p)).1

-- one value alone
pub end_one : (w : ℕ) (d : ℕ → Bool) (a : ℤ) (v : ℕ) → d v ≡ true → v < w → ((u : ℕ) → d u ≡ true → u ≡ v) → a *ℤ pos (end w d a) ≡ a *ℤ pos v
end_one w d a v h l only = ap (λ (z : ℕ). a *ℤ pos z) (only (end w d a) (end_is w d a v h l).0)

-- the sum is one part and the others
pub lows_split : (w : ℕ) (S : Table) (ts : List Term) (k : ℕ) → k < length ts → lows w S ts ≡ low w (S (term ts k).variable) (term ts k).coefficient +ℤ lows w S (others ts k)
lows_split w S [] k l = absurd (omega arith)
lows_split w S (t ∷ ts) zero l = refl
lows_split w S (t ∷ ts) (suc k) l = let e = lows_split w S ts k (omega arith) in omega (arith, ints)
