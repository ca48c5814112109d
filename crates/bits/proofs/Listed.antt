-- The members of a set as a list. Assumes nothing.
use Rattle.std.proofs.Common.{◌≡◌, ℕ, zero, suc, ◌+◌, ◌<◌, ◌≤◌, Bool, true, false, cond, not, ◌&&◌, eqb, ◌≢◌, List, [], ◌∷◌, length, get_or, sym, refl, ap, ap₂, ◌∙◌, ⊎_elim, arith}
use Rattle.std.proofs.lemmas.Bool.{cond-true, cond-false, cond_both, both_ways, cases_eq, ne_eqb, eq-eqb}
use Rattle.bits.specs.Bit.{has, rising, members, Empty}

rising-none : (d : ℕ → Bool) (x n : ℕ) → Empty d → rising d x n ≡ []
rising-none d x zero f = refl
rising-none d x (suc n) f = cond-false (d x) (x ∷ rising d (suc x) n) (rising d (suc x) n) (f x) ∙ rising-none d (suc x) n f

rising-same : (d e : ℕ → Bool) (x n : ℕ) → ((u : ℕ) → x ≤ u → e u ≡ d u) → rising d x n ≡ rising e x n
rising-same d e x zero f = refl
rising-same d e x (suc n) f =
    ap₂ (λ (b : Bool) (r : List ℕ). cond b (x ∷ r) r) (sym (f x (omega arith))) (rising-same d e (suc x) n (λ u l. f u (omega arith)))

and_true : (b : Bool) → (b && true) ≡ b
and_true true = refl
and_true false = refl

-- the first member, and then those that are left without it
first-step : (d e : ℕ → Bool) (x n v : ℕ) → x ≤ v → d v ≡ true → ((u : ℕ) → u < v → d u ≡ false) → ((u : ℕ) → e u ≡ (d u && not (eqb u v)))
    → ((x ≢ v) → rising d (suc x) n ≡ v ∷ rising e (suc x) n) → rising d x (suc n) ≡ v ∷ rising e x (suc n)
first-step d e x n v l t f g next =
    let gone : e v ≡ false = g v ∙ ap₂ (λ (a b : Bool). a && not b) t (eq-eqb v v refl) in
    let kept : (u : ℕ) → u ≢ v → e u ≡ d u = λ u ne. g u ∙ ap (λ (b : Bool). d u && not b) (ne_eqb u v ne) ∙ and_true (d u) in
    ⊎_elim
    (λ q.
    cond-true (d x) (x ∷ rising d (suc x) n) (rising d (suc x) n) (ap d q ∙ t) ∙
    ap₂ (λ (a : ℕ) (r : List ℕ). a ∷ r) q (rising-same d e (suc x) n (λ u k. kept u (λ z. omega (arith, z, q, k))) ∙ sym (cond-false (e x) (x ∷ rising e (suc x) n) (rising e (suc x) n) (ap e q ∙ gone))))
    (λ ne.
    let none : d x ≡ false = f x (omega (arith, ne)) in
    cond-false (d x) (x ∷ rising d (suc x) n) (rising d (suc x) n) none ∙
    next ne ∙
    ap (λ (r : List ℕ). v ∷ r) (sym (cond-false (e x) (x ∷ rising e (suc x) n) (rising e (suc x) n) (kept x ne ∙ none))))
    (cases_eq x v)

rising-first : (d e : ℕ → Bool) (x n v : ℕ) → x ≤ v → v < x + n → d v ≡ true → ((u : ℕ) → u < v → d u ≡ false) → ((u : ℕ) → e u ≡ (d u && not (eqb u v))) → rising d x n ≡ v ∷ rising e x n
rising-first d e x zero v l h t f g = absurd (omega arith)
rising-first d e x (suc n) v l h t f g = first-step d e x n v l t f g (λ ne. rising-first d e (suc x) n v (omega (arith, ne)) (omega arith) t f g)

-- an item of the list is a member, in its range
abbrev In : (ℕ → Bool) → ℕ → List ℕ → Type 0
In d most r = (k : ℕ) → k < length r → (d (get_or r k 0) ≡ true) × (get_or r k 0 < most)

in-more : (d : ℕ → Bool) (x most : ℕ) (r : List ℕ) → d x ≡ true → x < most → In d most r → In d most (x ∷ r)
in-more d x most r t l f zero h = (t, l)
in-more d x most r t l f (suc k) h = f k (omega arith)

rising-in : (d : ℕ → Bool) (x n most : ℕ) → x + n ≤ most → In d most (rising d x n)
rising-in d x zero most l = λ k h. absurd (omega arith)
rising-in d x (suc n) most l =
    let next = rising-in d (suc x) n most (omega arith) in
    cond_both (d x) (x ∷ rising d (suc x) n) (rising d (suc x) n) (In d most) (λ t. in-more d x most (rising d (suc x) n) t (omega arith) next) (λ f. next)

-- each member stands in the list
abbrev Stands : ℕ → List ℕ → Type 0
Stands u r = (k : ℕ) × (k < length r) × (get_or r k 0 ≡ u)

rising-has : (d : ℕ → Bool) (x n u : ℕ) → x ≤ u → u < x + n → d u ≡ true → Stands u (rising d x n)
rising-has d x zero u l h t = absurd (omega arith)
rising-has d x (suc n) u l h t =
    let next : (x ≢ u) → Stands u (rising d (suc x) n) = λ ne. rising-has d (suc x) n u (omega (arith, ne)) (omega arith) t in
    cond_both (d x) (x ∷ rising d (suc x) n) (rising d (suc x) n) (Stands u)
    (λ e. ⊎_elim (λ q. (0, omega arith, q)) (λ ne. let r = next ne in (suc r.0, omega (arith, r.1), r.2)) (cases_eq x u))
    (λ e. next (λ q. both_ways (d x) e (ap d q ∙ t)))

pub members-none : (w : ℕ) → Empty (has w) → members w ≡ []
unfolding members
members-none w f = rising-none (has w) 0 64 f

pub members-first : (w r v : ℕ) → v < 64 → has w v ≡ true → ((u : ℕ) → u < v → has w u ≡ false) → ((u : ℕ) → has r u ≡ (has w u && not (eqb u v))) → members w ≡ v ∷ members r
unfolding members
members-first w r v l t f g = rising-first (has w) (has r) 0 64 v (omega arith) (omega arith) t f g

-- the list has just the members
pub members-at : (w k : ℕ) → k < length (members w) → (has w (get_or (members w) k 0) ≡ true) × (get_or (members w) k 0 < 64)
unfolding members
members-at w k l = rising-in (has w) 0 64 64 (omega arith) k l

pub members-has : (w u : ℕ) → u < 64 → has w u ≡ true → (k : ℕ) × (k < length (members w)) × (get_or (members w) k 0 ≡ u)
unfolding members
members-has w u l t = rising-has (has w) 0 64 u (omega arith) (omega arith) t
