-- At most keeps the laws of a kind. Assumes nothing.
use Rattle.std.specs.Prelude.{◌≡◌, ℕ, zero, suc, ◌<◌, Bool, true, false, not, ◌||◌, List, [], ◌∷◌, map, length, ℤ, pos, ◌+ℤ◌, ◌*ℤ◌, ◌≤ℤ◌, ◌==◌, int_le, slice_index, refl}
use Rattle.std.proofs.Common.{sym, ap, ap₂, ◌∙◌, subst, ⊎_elim, arith}
use Rattle.std.proofs.Math.Path.{fun_ext}
use Rattle.std.proofs.lemmas.Int.{ints}
use Rattle.std.proofs.lemmas.Bool.{both_ways, or_cases, or_left, or_right, eq-eqb, eqb-true}
use Rattle.tree.specs.Tables.{Table, Inside, join, single}
use Rattle.tree.specs.Domains.{every}
use Rattle.tree.proofs.Tables.{same_test, join-left, join_right}
use Rattle.tree.proofs.Domains.{every-from, every-to, implied, implies}
use Rattle.tree.proofs.Singles.{single-is}
use Rattle.model.specs.Values.{at_most, different}
use Rattle.kinds.specs.Laws.{Joins, Rests, Singles}
use Rattle.model.specs.declared.values.Term.{Term}
use Rattle.atmost.specs.Linear.{low, lows, term, others, within, all_within, stable, sum, meets, listed, WithinBound}
use Rattle.atmost.specs.Ends.{end, end_larger, end_one, lows_split}

pub term-listed : (ts : List Term) (k : ℕ) → k < length ts → listed ts (term ts k).variable ≡ true
term-listed [] k l = absurd (omega arith)
term-listed (t ∷ ts) zero l = or_left (t.variable == t.variable) (listed ts t.variable) (eq-eqb t.variable t.variable refl)
term-listed (t ∷ ts) (suc k) l = or_right ((term ts k).variable == t.variable) (listed ts (term ts k).variable) (term-listed ts k (omega arith))

pub others-listed : (ts : List Term) (k x : ℕ) → listed (others ts k) x ≡ true → listed ts x ≡ true
others-listed [] k x h = h
others-listed (t ∷ ts) zero x h = or_right (x == t.variable) (listed ts x) h
others-listed (t ∷ ts) (suc k) x h = ⊎_elim
    (λ e. or_left (x == t.variable) (listed ts x) e)
    (λ e. or_right (x == t.variable) (listed ts x) (others-listed ts k x e))
    (or_cases (x == t.variable) (listed (others ts k) x) h)

-- a listed variable has a term
pub listed-term : (ts : List Term) (x : ℕ) → listed ts x ≡ true → (k : ℕ) × (k < length ts) × ((term ts k).variable ≡ x)
listed-term [] x h = absurd (both_ways false refl h)
listed-term (t ∷ ts) x h = ⊎_elim
    (λ e. (0, omega arith, sym (eqb-true x t.variable e)))
    (λ e. let p = listed-term ts x e in (suc p.0, omega (arith, p.1), p.2))
    (or_cases (x == t.variable) (listed ts x) h)

here : (t : Term) (ts : List Term) → listed (t ∷ ts) t.variable ≡ true
here t ts = or_left (t.variable == t.variable) (listed ts t.variable) (eq-eqb t.variable t.variable refl)

there : (t : Term) (ts : List Term) (x : ℕ) → listed ts x ≡ true → listed (t ∷ ts) x ≡ true
there t ts x h = or_right (x == t.variable) (listed ts x) h

-- larger domains have smaller parts at their ends
pub ends_larger : (w : ℕ) (S T : Table) (ts : List Term) → Inside S T → ((x v : ℕ) → S x v ≡ true → v < w) → ((x : ℕ) → listed ts x ≡ true → (v : ℕ) × (S x v ≡ true))
    → (t : Term) → listed ts t.variable ≡ true → (t.coefficient *ℤ pos (end w (T t.variable) t.coefficient)) ≤ℤ (t.coefficient *ℤ pos (end w (S t.variable) t.coefficient))
ends_larger w S T ts ins b f t m = let g = f t.variable m in end_larger w (S t.variable) (T t.variable) t.coefficient (ins t.variable) (b t.variable) g.0 g.1

-- smaller least parts have a smaller sum
pub lows_smaller : (w : ℕ) (S T : Table) (ts : List Term) → ((t : Term) → listed ts t.variable ≡ true → low w (T t.variable) t.coefficient ≤ℤ low w (S t.variable) t.coefficient) → lows w T ts ≤ℤ lows w S ts
lows_smaller w S T [] f = omega (arith, ints)
lows_smaller w S T (t ∷ ts) f =
    let p = f t (here t ts) in
    let q = lows_smaller w S T ts (λ u m. f u (there t ts u.variable m)) in
    omega (arith, ints)

lows-same : (w : ℕ) (S T : Table) (ts : List Term) → ((x v : ℕ) → listed ts x ≡ true → S x v ≡ T x v) → lows w S ts ≡ lows w T ts
lows-same w S T [] f = refl
lows-same w S T (t ∷ ts) f = ap₂ ◌+ℤ◌ (ap (λ (d : ℕ → Bool). low w d t.coefficient) (fun_ext (λ v. f t.variable v (here t ts)))) (lows-same w S T ts (λ x v h. f x v (there t ts x h)))

-- least parts that are those of the values a have the sum of these
pub lows_sum : (w : ℕ) (a : List ℕ) (ts : List Term) → ((t : Term) → listed ts t.variable ≡ true → low w (single a t.variable) t.coefficient ≡ t.coefficient *ℤ pos (slice_index a t.variable)) → lows w (single a) ts ≡ sum ts a
lows_sum w a [] f = refl
lows_sum w a (t ∷ ts) f = ap₂ ◌+ℤ◌ (f t (here t ts)) (lows_sum w a ts (λ u m. f u (there t ts u.variable m)))

module _ (w : ℕ) (ts : List Term) (b : ℤ) where
  pub stable-to : (S : Table) → all_within w ts b S ≡ true → WithinBound w ts b S
  stable-to S e k l v vl h =
      let x = (term ts k).variable in
      let t = implied (S x v) (within w ts b S k v)
      (every-to w (λ u. not (S x u) || within w ts b S k u)
      (every-to (length ts) (λ j. every w (λ u. not (S (term ts j).variable u) || within w ts b S j u)) e k l) v vl) h in
      omega (arith, ints)

  pub stable-from : (S : Table) → WithinBound w ts b S → all_within w ts b S ≡ true
  stable-from S f =
      every-from (length ts) (λ j. every w (λ u. not (S (term ts j).variable u) || within w ts b S j u)) (λ k l.
      every-from w (λ u. not (S (term ts k).variable u) || within w ts b S k u) (λ v vl.
      implies (S (term ts k).variable v) (within w ts b S k v) (λ h. let p = f k l v vl h in sym (omega (arith, ints)))))

  stable-same : (S T : Table) → ((x v : ℕ) → listed ts x ≡ true → S x v ≡ T x v) → all_within w ts b S ≡ true → all_within w ts b T ≡ true
  stable-same S T f e = stable-from T (λ k l v vl h.
      let p = stable-to S e k l v vl (f (term ts k).variable v (term-listed ts k l) ∙ h) in
      let q = lows-same w S T (others ts k) (λ x u n. f x u (others-listed ts k x n)) in
      omega (arith, ints))

pub map-length : (ts : List Term) → length (map (λ t. t.variable) ts) ≡ length ts
map-length [] = refl
map-length (t ∷ ts) = ap suc (map-length ts)

pub joins : Joins 2 stable
joins n w (different xs) k named S T bs bt fs ft es et = refl
joins n w (at_most b ts) e named S T bs bt fs ft es et = stable-from w ts b (join S T) (λ k l v vl j. ⊎_elim
    (λ (g : S (term ts k).variable v ≡ true). let p = stable-to w ts b S es k l v vl g in
    let q = lows_smaller w S (join S T) (others ts k) (ends_larger w S (join S T) (others ts k) (join-left S T) (λ x u z. (bs x u z).1) (λ x m. fs x (named.below x (others-listed ts k x m)))) in
    omega (arith, ints))
    (λ (g : T (term ts k).variable v ≡ true). let p = stable-to w ts b T et k l v vl g in
    let q = lows_smaller w T (join S T) (others ts k) (ends_larger w T (join S T) (others ts k) (join_right S T) (λ x u z. (bt x u z).1) (λ x m. ft x (named.below x (others-listed ts k x m)))) in
    omega (arith, ints))
    (or_cases (S (term ts k).variable v) (T (term ts k).variable v) j))

pub rests : Rests 2 stable
rests w (different xs) k S T f = refl
rests w (at_most b ts) k S T f = same_test (all_within w ts b S) (all_within w ts b T)
    (stable-same w ts b S T (λ x v m. f x v m)) (stable-same w ts b T S (λ x v m. sym (f x v m)))

pub singles : Singles 2 stable meets
singles n w (different xs) k named a bd f = refl
singles n w (at_most b ts) e named a bd f =
    let some : 0 < length ts = omega (arith, named.some, map-length ts) in
    let value-at : (x : ℕ) → listed ts x ≡ true → (single a x (slice_index a x) ≡ true) × (slice_index a x < w) = λ x m.
    let g = f x (named.below x m) in
    let e = (single-is a x g.0 g.1).1 in
    (subst (λ (z : ℕ). single a x z ≡ true) e g.1, subst (λ (z : ℕ). z < w) e (bd x g.0 g.1).1) in
    let part : (t : Term) → listed ts t.variable ≡ true → low w (single a t.variable) t.coefficient ≡ t.coefficient *ℤ pos (slice_index a t.variable) = λ t m.
    let p = value-at t.variable m in
    end_one w (single a t.variable) t.coefficient (slice_index a t.variable) p.0 p.1 (λ u z. (single-is a t.variable u z).1) in
    let whole : (k : ℕ) → k < length ts → ((term ts k).coefficient *ℤ pos (slice_index a (term ts k).variable) +ℤ lows w (single a) (others ts k)) ≡ sum ts a = λ k l.
    let m = term-listed ts k l in
    let q = part (term ts k) m in
    let r = lows_split w (single a) ts k l in
    let s = lows_sum w a ts part in
    omega (arith, ints, q, r, s) in
    same_test (all_within w ts b (single a)) (int_le (sum ts a) b)
    (λ e. let p = value-at (term ts 0).variable (term-listed ts 0 some) in
    let q = stable-to w ts b (single a) e 0 some (slice_index a (term ts 0).variable) p.1 p.0 in
    let r = whole 0 some in
    sym (omega (arith, ints, q, r)))
    (λ e. stable-from w ts b (single a) (λ k l v vl h.
    let q = (single-is a (term ts k).variable v h).1 in
    let r = whole k l in
    subst (λ (z : ℕ). ((term ts k).coefficient *ℤ pos z +ℤ lows w (single a) (others ts k)) ≤ℤ b) (sym q) (omega (arith, ints, r, e))))
