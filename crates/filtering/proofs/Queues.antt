-- The ring as a queue, and how many can wait. Assumes nothing.
use Rattle.std.proofs.Common.{◌≡◌, ℕ, zero, suc, ◌+◌, ◌-◌, ◌%◌, ◌<◌, ◌≤◌, Bool, true, false, cond, not, ◌&&◌, ◌||◌, eqb, ◌≢◌, ◌⊎◌, List, [], ◌∷◌, ◌++◌, length, get_or, set, sym, refl, ap, ◌∙◌, ap₂, inl, inr, ⊎_elim, arith, get_or-set_other, get_or-set_same}
use Rattle.std.proofs.lemmas.Bool.{or_cases, or_left, or_right, or_parts, or_from, cases_eq, cond_both, cond-true, cond-false, eqb-true, eqb-false, eq-eqb, ne_eqb}
use Rattle.tree.specs.Domains.{size}
use Rattle.model.specs.Reading.{among}
use Rattle.filtering.specs.Rings.{Ring, around, queue, Once, Orderly}
use Rattle.filtering.specs.Waits.{behind, woken}

-- places

pub around-same : (ring : List ℕ) (h k n : ℕ) → h % 64 ≡ k % 64 → around ring h n ≡ around ring k n
around-same ring h k zero e = refl
around-same ring h k (suc n) e = ap₂ (λ (i : ℕ) (r : List ℕ). get_or ring i 0 ∷ r) e (around-same ring (suc h) (suc k) n (omega arith))

pub around-length : (ring : List ℕ) (h n : ℕ) → length (around ring h n) ≡ n
around-length ring h zero = refl
around-length ring h (suc n) = ap suc (around-length ring (suc h) n)

around-end : (ring : List ℕ) (h n : ℕ) → around ring h (suc n) ≡ around ring h n ++ (get_or ring ((h + n) % 64) 0 ∷ [])
around-end ring h zero = let e : h % 64 ≡ (h + 0) % 64 = omega arith in ap (λ (i : ℕ). get_or ring i 0 ∷ []) e
around-end ring h (suc n) =
    let e : (suc h + n) % 64 ≡ (h + suc n) % 64 = omega arith in
    ap (λ (r : List ℕ). get_or ring (h % 64) 0 ∷ r) (around-end ring (suc h) n ∙ ap (λ (i : ℕ). around ring (suc h) n ++ (get_or ring i 0 ∷ [])) e)

around-other : (ring : List ℕ) (h n at v : ℕ) → ((k : ℕ) → k < n → (h + k) % 64 ≢ at) → around (set ring at v) h n ≡ around ring h n
around-other ring h zero at v f = refl
around-other ring h (suc n) at v f =
    let e : (h + 0) % 64 ≡ h % 64 = omega arith in
    let ne : h % 64 ≢ at = λ q. f 0 (omega arith) (e ∙ q) in
    ap₂ (λ (x : ℕ) (r : List ℕ). x ∷ r)
    (get_or-set_other ring at (h % 64) v 0 ne)
    (around-other ring (suc h) n at v (λ k l q. f (suc k) (omega arith) (let m : (h + suc k) % 64 ≡ (suc h + k) % 64 = omega arith in m ∙ q)))

pub around-put : (ring : List ℕ) (h n v : ℕ) → length ring ≡ 64 → n < 64 → around (set ring ((h % 64 + n) % 64) v) h (n + 1) ≡ around ring h n ++ (v ∷ [])
around-put ring h n v len lt =
    let at : ℕ = (h % 64 + n) % 64 in
    let one : n + 1 ≡ suc n = omega arith in
    let here : (h + n) % 64 ≡ at = omega arith in
    ap (around (set ring at v) h) one ∙
    around-end (set ring at v) h n ∙
    ap₂ (λ (r : List ℕ) (x : ℕ). r ++ (x ∷ [])) (around-other ring h n at v (λ k l q. omega (arith, q))) (ap (λ (i : ℕ). get_or (set ring at v) i 0) here ∙ get_or-set_same ring at v 0 (omega arith))

pub around-first : (ring : List ℕ) (h n : ℕ) → (n ≡ 0 → ⊥) → around ring h n ≡ get_or ring (h % 64) 0 ∷ around ring (h % 64 + 1) (n - 1)
around-first ring h zero f = absurd (f refl)
around-first ring h (suc n) f =
    let m : n ≡ suc n - 1 = omega arith in
    ap (λ (r : List ℕ). get_or ring (h % 64) 0 ∷ r) (around-same ring (suc h) (h % 64 + 1) n (omega arith) ∙ ap (around ring (h % 64 + 1)) m)

-- members

pub among-end : (i v : ℕ) (q : List ℕ) → among i (q ++ (v ∷ [])) ≡ (among i q || eqb i v)
among-end i v [] = or-none (eqb i v)
  where
    or-none : (b : Bool) → (b || false) ≡ b
    or-none true = refl
    or-none false = refl
among-end i v (j ∷ q) = ap (λ (b : Bool). eqb i j || b) (among-end i v q) ∙ assoc (eqb i j) (among i q) (eqb i v)
  where
    assoc : (a b c : Bool) → (a || (b || c)) ≡ ((a || b) || c)
    assoc true b c = refl
    assoc false b c = refl

pub once-end : (v : ℕ) (q : List ℕ) → Once q → among v q ≡ false → Once (q ++ (v ∷ []))
once-end v [] o e = (refl, tt)
once-end v (j ∷ q) o e =
    let p = or_parts (eqb v j) (among v q) e in
    (among-end j v q ∙ or_from (among j q) (eqb j v) o.0 (ne_eqb j v (λ h. eqb-false v j p.0 (sym h))), once-end v q o.1 p.1)

-- how many

size_same : (d e : ℕ → Bool) (n : ℕ) → ((i : ℕ) → i < n → e i ≡ d i) → size e n ≡ size d n
size_same d e zero f = refl
size_same d e (suc n) f = ap₂ (λ (b : Bool) (k : ℕ). cond b (suc k) k) (f n (omega arith)) (size_same d e n (λ i l. f i (omega arith)))

pub size_le : (d : ℕ → Bool) (n : ℕ) → size d n ≤ n
size_le d zero = omega arith
size_le d (suc n) = let l = size_le d n in cond_both (d n) (suc (size d n)) (size d n) (λ c. c ≤ suc n) (λ t. omega arith) (λ t. omega arith)

lift : (b : Bool) (k : ℕ) → cond b (suc (suc k)) (suc k) ≡ suc (cond b (suc k) k)
lift true k = refl
lift false k = refl

size_more : (d e : ℕ → Bool) (n x : ℕ) → x < n → d x ≡ false → e x ≡ true → ((i : ℕ) → (i ≡ x → ⊥) → e i ≡ d i) → size e n ≡ suc (size d n)
size_more d e zero x l p q f = absurd (omega arith)
size_more d e (suc n) x l p q f =
    ⊎_elim here
    (λ h. ap₂ (λ (b : Bool) (k : ℕ). cond b (suc k) k) (f n (λ z. h (sym z))) (size_more d e n x (omega arith) p q f) ∙ lift (d n) (size d n))
    (cases_eq x n)
  where
    here : x ≡ n → size e (suc n) ≡ suc (size d (suc n))
    here h =
        cond-true (e n) (suc (size e n)) (size e n) (ap e (sym h) ∙ q) ∙
        ap suc (size_same d e n (λ i k. f i (λ z. omega (arith, z, h, k))) ∙ sym (cond-false (d n) (suc (size d n)) (size d n) (ap d (sym h) ∙ p)))

once-size : (n : ℕ) (q : List ℕ) → Once q → ((i : ℕ) → among i q ≡ true → i < n) → size (λ i. among i q) n ≡ length q
once-size n [] o f = none n
  where
    none : (k : ℕ) → size (λ i. false) k ≡ 0
    none zero = refl
    none (suc k) = none k
once-size n (j ∷ q) o f =
    size_more (λ i. among i q) (λ i. among i (j ∷ q)) n j
    (f j (or_left (eqb j j) (among j q) (eq-eqb j j refl)))
    o.0
    (or_left (eqb j j) (among j q) (eq-eqb j j refl))
    (λ i h. ap (λ (b : Bool). b || among i q) (ne_eqb i j h))
    ∙ ap suc (once-size n q o.1 (λ i e. f i (or_right (eqb i j) (among i q) e)))

-- records below n that wait once each are n at most
pub once-few : (n : ℕ) (q : List ℕ) → Once q → ((i : ℕ) → among i q ≡ true → i < n) → length q ≤ n
once-few n q o f = omega (arith, size_le (λ i. among i q) n, once-size n q o f)

-- a ring in order has room for a record that does not wait
pub room : (l : Ring) (item : ℕ) → Orderly l → item < 64 → among item (queue l) ≡ false → l.len < 64
room l item o lt out =
    let few = once-few 64 (item ∷ queue l) (out, o.once) (λ i e. ⊎_elim (λ k. let j = eqb-true i item k in omega (arith, j, lt)) (o.below i) (or_cases (eqb i item) (among i (queue l)) e)) in
    omega (arith, few, around-length l.ring l.head l.len)

-- the word without the first
pub without_first : (i : ℕ) (b : Bool) (j : ℕ) → (i ≡ j → b ≡ false) → ((eqb i j || b) && not (eqb i j)) ≡ b
without_first i b j f = go (eqb i j) refl
  where
    and_true : (c : Bool) → (c && true) ≡ c
    and_true true = refl
    and_true false = refl

    go : (c : Bool) → eqb i j ≡ c → ((c || b) && not c) ≡ b
    go true e = sym (f (eqb-true i j e))
    go false e = and_true b

-- waking

pub among-behind : (i k : ℕ) (r : List ℕ) → among i (behind r k) ≡ (among i r || eqb i k)
among-behind i k r =
    cond_both (among k r) r (r ++ (k ∷ [])) (λ z. among i z ≡ (among i r || eqb i k))
    (λ e. ⊎_elim
    (λ q. let a = ap (λ (j : ℕ). among j r) q ∙ e in a ∙ sym (or_left (among i r) (eqb i k) a))
    (λ d. sym (ap (λ (b : Bool). among i r || b) (ne_eqb i k d) ∙ or-none (among i r)))
    (cases_eq i k))
    (λ e. among-end i k r)
  where
    or-none : (b : Bool) → (b || false) ≡ b
    or-none true = refl
    or-none false = refl

pub woken-end : (is : List ℕ) (i : ℕ) (q : List ℕ) → woken (is ++ (i ∷ [])) q ≡ behind (woken is q) i
woken-end [] i q = refl
woken-end (j ∷ is) i q = woken-end is i (behind q j)

pub woken-left : (is q : List ℕ) (i : ℕ) → among i (woken is q) ≡ false → (among i q ≡ false) × (among i is ≡ false)
woken-left [] q i h = (h, refl)
woken-left (j ∷ is) q i h =
    let r = woken-left is (behind q j) i h in
    let p = or_parts (among i q) (eqb i j) (sym (among-behind i j q) ∙ r.0) in
    (p.0, or_from (eqb i j) (among i is) p.1 r.1)

pub woken_only : (is q : List ℕ) (i : ℕ) → among i (woken is q) ≡ true → (among i q ≡ true) ⊎ (among i is ≡ true)
woken_only [] q i h = inl h
woken_only (j ∷ is) q i h =
    ⊎_elim
    (λ b. ⊎_elim inl (λ e. inr (or_left (eqb i j) (among i is) e)) (or_cases (among i q) (eqb i j) (sym (among-behind i j q) ∙ b)))
    (λ r. inr (or_right (eqb i j) (among i is) r))
    (woken_only is (behind q j) i h)

behind-once : (q : List ℕ) (k : ℕ) → Once q → Once (behind q k)
behind-once q k o = cond_both (among k q) q (q ++ (k ∷ [])) Once (λ t. o) (λ f. once-end k q o f)

pub woken-once : (is q : List ℕ) → Once q → Once (woken is q)
woken-once [] q o = o
woken-once (j ∷ is) q o = woken-once is (behind q j) (behind-once q j o)
