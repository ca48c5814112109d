-- The numbers that a pass computes. Assumes nothing.
use Rattle.std.proofs.Common.{◌≡◌, ℕ, zero, suc, ◌+◌, ◌<◌, ◌≤◌, Bool, true, false, cond, eqb, ◌⊎◌, List, [], ◌∷◌, length, take, ℤ, pos, negsuc, ◌+ℤ◌, ◌-ℤ◌, ◌*ℤ◌, Some, None, Ok, Option, sym, refl, ap, ◌∙◌, subst, ap₂, inl, inr, ⊎_elim, mul-le-mul_left, arith, w16, w32, w64, SFits, to_z, of_z}
use lib.Signed.{lt_z}
use borrow.Author.Differences.{up, down, fits_out}
use Rattle.std.proofs.lemmas.Int.{ints, to_z-of_z}
use Rattle.std.proofs.lemmas.Bool.{cases_lt, cond-true, cond-false, both_ways, or_cases, or_left, or_right, eqb-true}
use Rattle.tree.specs.Tables.{Table}
use Rattle.tree.specs.Domains.{least, greatest}
use Rattle.tables.specs.States.{TableState, Bounds}
use Rattle.model.specs.declared.values.Term.{Term}
use Rattle.atmost.specs.Linear.{low, lows, term, listed}
use Rattle.atmost.specs.Trims.{End, Small, SmallSum}
use Rattle.tree.proofs.Domains.{least-bottom, greatest-top}

-- a 16-bit coefficient times a byte
pub part_small : (a : ℤ) (v : ℕ) → SFits w16 a → v < 256 → Small (a *ℤ pos v)
part_small a v f l =
    let r = fits_out w16 a f in
    let s = one-part a in
    let p = mul-le-mul_left (up a) (below v l) in
    let q = mul-le-mul_left (down a) (below v l) in
    (omega (arith, ints), omega (arith, ints))
  where
    below : (v : ℕ) → v < 256 → v ≤ 255
    below v l = omega arith

    one-part : (a : ℤ) → (up a ≡ 0) ⊎ (down a ≡ 0)
    one-part (pos k) = inr refl
    one-part (negsuc k) = inl refl

pub small-fits : (z : ℤ) → Small z → SFits w64 z
small-fits z s = omega (arith, ints, s.0, s.1)

-- the product as the code has it
pub product : (a p q : ℤ) (v : ℕ) → SFits w16 a → v < 256 → p ≡ to_z w16 (of_z w16 a) → q ≡ pos v → to_z w64 (of_z w64 (to_z w64 (of_z w64 p) *ℤ to_z w64 (of_z w64 q))) ≡ a *ℤ pos v
product a p q v f l e g =
    let pa : p ≡ a = e ∙ to_z-of_z w16 a f in
    let ff : SFits w64 a = let r = fits_out w16 a f in omega (arith, ints) in
    let fv : SFits w64 (pos v) = omega (arith, ints) in
    ap₂ (λ (x y : ℤ). to_z w64 (of_z w64 (to_z w64 (of_z w64 x) *ℤ to_z w64 (of_z w64 y)))) pa g
    ∙ ap₂ (λ (x y : ℤ). to_z w64 (of_z w64 (x *ℤ y))) (to_z-of_z w64 a ff) (to_z-of_z w64 (pos v) fv)
    ∙ to_z-of_z w64 (a *ℤ pos v) (small-fits (a *ℤ pos v) (part_small a v f l))

-- the end of a domain that gives the least part
pub low_end : (s : TableState) (x : ℕ) (a : ℤ) (o : Option ℕ) (v : ℕ) → Bounds s → o ≡ Some v → End s x (lt_z a (pos 0)) (Ok o) → (s.domains x v ≡ true) × (a *ℤ pos v ≡ low s.width (s.domains x) a)
low_end s x a o v b e h = by (lt_z a (pos 0)) refl (subst (λ (z : Option ℕ). End s x (lt_z a (pos 0)) (Ok z)) e h)
  where
    d : ℕ → Bool
    d = s.domains x

    w : ℕ
    w = s.width

    by : (t : Bool) → lt_z a (pos 0) ≡ t → End s x t (Ok (Some v)) → (d v ≡ true) × (a *ℤ pos v ≡ a *ℤ pos (cond (lt_z a (pos 0)) (greatest d w) (least d 0 w)))
    by true e g =
        let p = greatest-top d w v (b.within x v g.1.0).1 g.1.0 in
        let q : v ≡ greatest d w = ⊎_elim (λ l. absurd (both_ways (d (greatest d w)) (g.1.1 (greatest d w) l) p.0)) (λ l. omega (arith, p.2)) (cases_lt v (greatest d w)) in
        (g.1.0, ap (λ (z : ℕ). a *ℤ pos z) (q ∙ sym (cond-true (lt_z a (pos 0)) (greatest d w) (least d 0 w) e)))
    by false e g =
        let p = least-bottom d 0 w v (omega arith) (let z = (b.within x v g.1.0).1 in omega (arith, z)) g.1.0 in
        let q : v ≡ least d 0 w = ⊎_elim (λ l. absurd (both_ways (d (least d 0 w)) (g.1.1 (least d 0 w) l) p.0)) (λ l. omega (arith, p.1)) (cases_lt (least d 0 w) v) in
        (g.1.0, ap (λ (z : ℕ). a *ℤ pos z) (q ∙ sym (cond-false (lt_z a (pos 0)) (greatest d w) (least d 0 w) e)))

abbrev held : Option ℤ → ℤ
held (Some z) = z
held None = pos 0

pub some_same : (x y : ℤ) → Some x ≡ Some y → x ≡ y
some_same x y e = ap held e

-- a sum as the code has it
pub plus : (x s p : ℤ) → x ≡ s → SFits w64 p → SFits w64 (s +ℤ p) → to_z w64 (of_z w64 (x +ℤ to_z w64 (of_z w64 p))) ≡ s +ℤ p
plus x s p e f g = ap₂ (λ (y z : ℤ). to_z w64 (of_z w64 (y +ℤ z))) e (to_z-of_z w64 p f) ∙ to_z-of_z w64 (s +ℤ p) g

pub small_more : (k : ℕ) (s p : ℤ) → SmallSum k s → Small p → SmallSum (k + 1) (s +ℤ p)
small_more k s p a b = (omega (arith, ints, a.0, b.0), omega (arith, ints, a.1, b.1))

pub sum_fits : (k : ℕ) (s : ℤ) → k ≤ 64 → SmallSum k s → SFits w64 s
sum_fits k s l a = omega (arith, ints, a.0, a.1)

-- one term more
lows-suc : (w : ℕ) (S : Table) (ts : List Term) (k : ℕ) → k < length ts → lows w S (take (suc k) ts) ≡ lows w S (take k ts) +ℤ low w (S (term ts k).variable) (term ts k).coefficient
lows-suc w S [] k l = absurd (omega arith)
lows-suc w S (t ∷ ts) zero l = omega (arith, ints)
lows-suc w S (t ∷ ts) (suc k) l = let e = lows-suc w S ts k (omega arith) in omega (arith, ints)

pub lows_more : (w : ℕ) (S : Table) (ts : List Term) (k : ℕ) → k < length ts → lows w S (take (k + 1) ts) ≡ lows w S (take k ts) +ℤ low w (S (term ts k).variable) (term ts k).coefficient
lows_more w S ts k l = let e : k + 1 ≡ suc k = omega arith in ap (λ (j : ℕ). lows w S (take j ts)) e ∙ lows-suc w S ts k l

listed_suc : (ts : List Term) (k x : ℕ) → k < length ts → listed (take (suc k) ts) x ≡ true → (listed (take k ts) x ≡ true) ⊎ (x ≡ (term ts k).variable)
listed_suc [] k x l h = absurd (omega arith)
listed_suc (t ∷ ts) zero x l h = ⊎_elim (λ e. inr (eqb-true x t.variable e)) (λ e. absurd (both_ways false refl e)) (or_cases (eqb x t.variable) false h)
listed_suc (t ∷ ts) (suc k) x l h = ⊎_elim
    (λ e. inl (or_left (eqb x t.variable) (listed (take k ts) x) e))
    (λ e. ⊎_elim (λ q. inl (or_right (eqb x t.variable) (listed (take k ts) x) q)) (λ q. inr q) (listed_suc ts k x (omega arith) e))
    (or_cases (eqb x t.variable) (listed (take (suc k) ts) x) h)

pub listed_more : (ts : List Term) (k x : ℕ) → k < length ts → listed (take (k + 1) ts) x ≡ true → (listed (take k ts) x ≡ true) ⊎ (x ≡ (term ts k).variable)
listed_more ts k x l h = let e : k + 1 ≡ suc k = omega arith in listed_suc ts k x l (ap (λ (j : ℕ). listed (take j ts) x) (sym e) ∙ h)

pub take_whole : (ts : List Term) (k : ℕ) → length ts ≤ k → take k ts ≡ ts
take_whole [] zero l = refl
take_whole [] (suc k) l = refl
take_whole (t ∷ ts) zero l = absurd (omega arith)
take_whole (t ∷ ts) (suc k) l = ap (λ (us : List Term). t ∷ us) (take_whole ts k (omega arith))

abbrev there : Option ℤ → Bool
there (Some z) = true
there None = false

pub none-some : (z : ℤ) → None ≡ Some z → ⊥
none-some z e = both_ways true (sym (ap there e)) refl

-- the room as the code has it
module _ (t p : ℤ) (st : SmallSum 64 t) (sp : Small p) where
  pub rest_fits : SFits w64 (to_z w64 (of_z w64 t) -ℤ to_z w64 (of_z w64 p))
  rest_fits = omega (arith, ints, st.0, st.1, sp.0, sp.1)

  rest_is : to_z w64 (of_z w64 (to_z w64 (of_z w64 t) -ℤ to_z w64 (of_z w64 p))) ≡ t -ℤ p
  rest_is = omega (arith, ints, st.0, st.1, sp.0, sp.1)

  module _ (b f : ℤ) (sb : SFits w32 b) (e : f ≡ to_z w32 (of_z w32 b)) where
    from_is : f ≡ b
    from_is = e ∙ to_z-of_z w32 b sb

    pub room_fits : SFits w64 (to_z w64 (of_z w64 f) -ℤ to_z w64 (of_z w64 (to_z w64 (of_z w64 t) -ℤ to_z w64 (of_z w64 p))))
    room_fits =
        let r = fits_out w32 b sb in
        subst (λ (y : ℤ). SFits w64 (to_z w64 (of_z w64 y) -ℤ to_z w64 (of_z w64 (to_z w64 (of_z w64 t) -ℤ to_z w64 (of_z w64 p))))) (sym from_is)
        (subst (λ (y : ℤ). SFits w64 (to_z w64 (of_z w64 b) -ℤ y)) (sym rest_is) (omega (arith, ints, st.0, st.1, sp.0, sp.1, r.0, r.1)))

    pub room_is : to_z w64 (of_z w64 (to_z w64 (of_z w64 f) -ℤ to_z w64 (of_z w64 (to_z w64 (of_z w64 t) -ℤ to_z w64 (of_z w64 p))))) ≡ b -ℤ (t -ℤ p)
    room_is =
        let r = fits_out w32 b sb in
        to_z-of_z w64 _ room_fits ∙ ap₂ (λ (x y : ℤ). to_z w64 (of_z w64 x) -ℤ y) from_is rest_is ∙ omega (arith, ints, st.0, st.1, sp.0, sp.1, r.0, r.1)
