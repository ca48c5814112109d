-- What the questions about a domain answer. Assumes nothing.
use Rattle.std.proofs.Common.{◌≡◌, ℕ, zero, suc, ◌+◌, ◌<◌, ◌≤◌, Bool, true, false, cond, not, ◌&&◌, ◌||◌, sym, refl, ap, ◌∙◌, subst, ⊎_elim, arith}
use Rattle.std.proofs.lemmas.Bool.{and_parts, and_from, or_cases, or_left, or_right, not-true, both_ways, cases_eq, cases_Bool, cond_both}
use Rattle.tree.specs.Tables.{Table, Open}
use Rattle.tree.specs.Domains.{has_some, every, size, least, greatest}

pub has_some_from : (d : ℕ → Bool) (w v : ℕ) → v < w → d v ≡ true → has_some d w ≡ true
has_some_from d zero v h e = absurd (omega arith)
has_some_from d (suc w) v h e =
    ⊎_elim (λ q. or_left (d w) (has_some d w) (ap d (sym q) ∙ e)) (λ q. or_right (d w) (has_some d w) (has_some_from d w v (omega arith) e)) (cases_eq v w)

pub has_some_to : (d : ℕ → Bool) (w : ℕ) → has_some d w ≡ true → (v : ℕ) × (d v ≡ true)
has_some_to d zero e = absurd (both_ways false refl e)
has_some_to d (suc w) e = ⊎_elim (λ h. (w, h)) (has_some_to d w) (or_cases (d w) (has_some d w) e)

pub every-from : (n : ℕ) (f : ℕ → Bool) → ((x : ℕ) → x < n → f x ≡ true) → every n f ≡ true
every-from zero f h = refl
every-from (suc n) f h = and_from (f n) (every n f) (h n (omega arith)) (every-from n f (λ x l. h x (omega arith)))

pub every-to : (n : ℕ) (f : ℕ → Bool) → every n f ≡ true → (x : ℕ) → x < n → f x ≡ true
every-to zero f e x l = absurd (omega arith)
every-to (suc n) f e x l =
    let p = and_parts (f n) (every n f) e in
    ⊎_elim (λ q. ap f q ∙ p.0) (λ q. every-to n f p.1 x (omega arith)) (cases_eq x n)

-- `not a || b` as an implication, and `not (a && b)` as a contradiction

pub implied : (a b : Bool) → (not a || b) ≡ true → a ≡ true → b ≡ true
implied true b h e = h
implied false b h e = absurd (both_ways false refl e)

pub implies : (a b : Bool) → (a ≡ true → b ≡ true) → (not a || b) ≡ true
implies true b f = f refl
implies false b f = refl

pub clash : (a b : Bool) → not (a && b) ≡ true → a ≡ true → b ≡ true → ⊥
clash a b h e f = both_ways (a && b) (not-true (a && b) h) (and_from a b e f)

pub no_clash : (a b : Bool) → (a ≡ true → b ≡ true → ⊥) → not (a && b) ≡ true
no_clash true true f = absurd (f refl refl)
no_clash true false f = refl
no_clash false b f = refl

-- the size

pub size-one : (d : ℕ → Bool) (w : ℕ) → 0 < size d w → (v : ℕ) × (v < w) × (d v ≡ true)
size-one d zero h = absurd (omega arith)
size-one d (suc w) h =
    ⊎_elim (λ t. (w, omega arith, t)) (λ f. let r = size-one d w (subst (λ (b : Bool). 0 < cond b (suc (size d w)) (size d w)) f h) in (r.0, omega arith, r.2)) (cases_Bool (d w))

pub size-has : (d : ℕ → Bool) (w v : ℕ) → v < w → d v ≡ true → 0 < size d w
size-has d zero v l e = absurd (omega arith)
size-has d (suc w) v l e =
    cond_both (d w) (suc (size d w)) (size d w) (λ k. 0 < k) (λ t. omega arith) (λ f. size-has d w v (⊎_elim (λ (q : v ≡ w). absurd (both_ways (d w) f (ap d (sym q) ∙ e))) (λ q. omega arith) (cases_eq v w)) e)

pub size_open : (T : Table) (x w : ℕ) → 1 < size (T x) w → Open T x
size_open T x zero h = absurd (omega arith)
size_open T x (suc w) h =
    ⊎_elim
    (λ t.
    let h' : 1 < suc (size (T x) w) = subst (λ (b : Bool). 1 < cond b (suc (size (T x) w)) (size (T x) w)) t h in
    let r = size-one (T x) w (omega arith) in
    let lt = r.1 in
    record { one = w; other = r.0; apart = λ e. omega arith; has_one = t; has_other = r.2 })
    (λ f. size_open T x w (subst (λ (b : Bool). 1 < cond b (suc (size (T x) w)) (size (T x) w)) f h))
    (cases_Bool (T x w))

pub open_size : (d : ℕ → Bool) (w u v : ℕ) → u < w → v < w → (u ≡ v → ⊥) → d u ≡ true → d v ≡ true → 1 < size d w
open_size d zero u v a b n e f = absurd (omega arith)
open_size d (suc w) u v a b n e f =
    cond_both (d w) (suc (size d w)) (size d w) (λ k. 1 < k)
    (λ t. ⊎_elim (λ q. let k = size-has d w v (omega arith) f in omega arith) (λ q. let k = size-has d w u (omega arith) e in omega arith) (cases_eq u w))
    (λ t. open_size d w u v (below u a e t) (below v b f t) n e f)
  where
    below : (z : ℕ) → z < suc w → d z ≡ true → d w ≡ false → z < w
    below z l g t = ⊎_elim (λ (q : z ≡ w). absurd (both_ways (d w) t (ap d (sym q) ∙ g))) (λ q. omega arith) (cases_eq z w)

-- the ends: the least and the greatest value are in the domain, and no other value lies beyond

pub least-bottom : (d : ℕ → Bool) (u k v : ℕ) → u ≤ v → v < u + k → d v ≡ true → (d (least d u k) ≡ true) × (least d u k ≤ v)
least-bottom d u zero v h l e = absurd (omega arith)
least-bottom d u (suc k) v h l e =
    cond_both (d u) u (least d (suc u) k) (λ z. (d z ≡ true) × (z ≤ v)) (λ t. (t, h))
    (λ f. least-bottom d (suc u) k v (⊎_elim (λ (q : v ≡ u). absurd (both_ways (d u) f (ap d (sym q) ∙ e))) (λ q. omega arith) (cases_eq v u)) (omega arith) e)

pub greatest-top : (d : ℕ → Bool) (w v : ℕ) → v < w → d v ≡ true → (d (greatest d w) ≡ true) × (greatest d w < w) × (v ≤ greatest d w)
greatest-top d zero v l e = absurd (omega arith)
greatest-top d (suc w) v l e =
    cond_both (d w) w (greatest d w) (λ z. (d z ≡ true) × (z < suc w) × (v ≤ z)) (λ t. (t, omega arith, omega arith))
    (λ f.
    let p = greatest-top d w v (⊎_elim (λ (q : v ≡ w). absurd (both_ways (d w) f (ap d (sym q) ∙ e))) (λ q. omega arith) (cases_eq v w)) e in
    (p.0, omega (arith, p.1), p.2))
