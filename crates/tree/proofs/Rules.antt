-- Both rules keep the law, and each answers what it is to answer. Assumes nothing.
use Rattle.std.proofs.Common.{◌≡◌, ℕ, zero, suc, ◌+◌, ◌<◌, ◌≤◌, true, false, cond, ltb, ◌⊎◌, ◌↔◌, Some, None, Option, sym, refl, ap, ◌∙◌, subst, inl, inr, ⊎_elim, arith}
use Rattle.std.proofs.lemmas.Bool.{both_ways, cases_eq, cond_both, ltb-true, ltb-false, lt-ltb}
use Rattle.tree.specs.Tables.{Table, Open}
use Rattle.tree.specs.Domains.{size, least, greatest}
use Rattle.tree.specs.Filter.{Problem, Bounded, Full}
use Rattle.tree.specs.Search.{Picked}
use Rattle.tree.specs.Find.{is_full}
use Rattle.tree.specs.Rules.{First, Small, lowest, smaller, smallest, paired, first, small}
use Rattle.tree.proofs.Domains.{size_open, open_size, least-bottom, greatest-top}
use Rattle.tree.proofs.Exists.{is_full_from, is_full_to}

module _ (P : Problem) (T : Table) (b : Bounded P T) where
  abbrev n : ℕ
  n = P.variables

  abbrev w : ℕ
  w = P.width

  -- an open variable is one with two values below the width
  open_wide : (x : ℕ) → Open T x → ltb 1 (size (T x) w) ≡ true
  open_wide x o = lt-ltb 1 (size (T x) w) (open_size (T x) w o.one o.other (b x o.one o.has_one).1 (b x o.other o.has_other).1 o.apart o.has_one o.has_other)

  wide_open : (x : ℕ) → ltb 1 (size (T x) w) ≡ true → Open T x
  wide_open x e = size_open T x w (ltb-true 1 (size (T x) w) e)

  narrow : (x y : ℕ) → ltb 1 (size (T x) w) ≡ false → Open T y → y ≡ x → ⊥
  narrow x y f o q = both_ways (ltb 1 (size (T x) w)) f (subst (λ (z : ℕ). ltb 1 (size (T z) w) ≡ true) q (open_wide y o))

  open_below : (x : ℕ) → Open T x → x < n
  open_below x o = (b x o.one o.has_one).0

  full_is : Full P T → is_full n w T ≡ true
  full_is f = is_full_from n w T (λ x l. let t = f x l in (t.0, (b x t.0 t.1).1, t.1))

  -- A variable is best among the k from x on: it is open, and it is not worse than any other open one of them.
  module _ (Best : ℕ → ℕ → Type 0) where
    abbrev Among : ℕ → ℕ → Option ℕ → Type 0
    Among x k None = (y : ℕ) → x ≤ y → y < x + k → Open T y → ⊥
    Among x k (Some z) = Open T z × ((y : ℕ) → x ≤ y → y < x + k → Open T y → Best z y)

    skip : (x k : ℕ) (o : Option ℕ) → ltb 1 (size (T x) w) ≡ false → Among (suc x) k o → Among x (suc k) o
    skip x k None f h = λ y le lt o. ⊎_elim (narrow x y f o) (λ q. h y (omega arith) (omega arith) o) (cases_eq y x)
    skip x k (Some z) f h = (h.0, λ y le lt o. ⊎_elim (λ q. absurd (narrow x y f o q)) (λ q. h.1 y (omega arith) (omega arith) o) (cases_eq y x))

    -- the law, and which pair it is
    abbrev Pairs : (ℕ → ℕ) → Option (ℕ × ℕ) → Type 0
    Pairs value None = Full P T → (x : ℕ) → Open T x → ⊥
    Pairs value (Some p) = Full P T × Open T p.0 × (p.1 ≡ value p.0) × ((y : ℕ) → Open T y → Best p.0 y)

    pairs : (value : ℕ → ℕ) (o : Option ℕ) → Among 0 n o → Pairs value (cond (is_full n w T) (paired value o) None)
    pairs value o h = cond_both (is_full n w T) (paired value o) None (Pairs value) (λ e. made e o h) (λ e f. absurd (both_ways (is_full n w T) e (full_is f)))
      where
        made : is_full n w T ≡ true → (o : Option ℕ) → Among 0 n o → Pairs value (paired value o)
        made e None h = λ f x o. h x (omega arith) (omega (arith, open_below x o)) o
        made e (Some z) h = (is_full_to n w T e, h.0, refl, λ y o. h.1 y (omega arith) (omega (arith, open_below y o)) o)

    -- it is the only one
    only : (value : ℕ → ℕ) (o : Option (ℕ × ℕ)) → Pairs value o → ((y z : ℕ) → Best y z → Best z y → y ≡ z) → Full P T → (x : ℕ) → Open T x → ((y : ℕ) → Open T y → Best x y) → o ≡ Some (x, value x)
    only value None h anti f x o best = absurd (h f x o)
    only value (Some p) h anti f x o best =
        let q : p.0 ≡ x = anti p.0 x (h.3 x o) (best p.0 h.1) in
        let r : p.1 ≡ value x = h.2 ∙ ap value q in
        λ i. Some (q i, r i)

  -- the lowest

  lowest-is : (k x : ℕ) → Among ◌≤◌ x k (lowest w T x k)
  lowest-is zero x = λ y le lt o. omega arith
  lowest-is (suc k) x =
      cond_both (ltb 1 (size (T x) w)) (Some x) (lowest w T (suc x) k) (Among ◌≤◌ x (suc k))
      (λ t. (wide_open x t, λ y le lt o. le))
      (λ f. skip ◌≤◌ x k (lowest w T (suc x) k) f (lowest-is k (suc x)))

  -- the smallest

  abbrev Before : ℕ → ℕ → Type 0
  Before x y = (size (T x) w < size (T y) w) ⊎ ((size (T x) w ≡ size (T y) w) × (x ≤ y))

  before_anti : (x y : ℕ) → Before x y → Before y x → x ≡ y
  before_anti x y (inl h) (inl k) = absurd (omega arith)
  before_anti x y (inl h) (inr k) = absurd (omega arith)
  before_anti x y (inr h) (inl k) = absurd (omega arith)
  before_anti x y (inr h) (inr k) = omega arith

  smaller-is : (x k : ℕ) (o : Option ℕ) → Open T x → Among Before (suc x) k o → Among Before x (suc k) (Some (smaller w T x o))
  smaller-is x k None ox h = (ox, λ y le lt o. ⊎_elim (λ q. inr (ap (λ (z : ℕ). size (T z) w) (sym q), le)) (λ q. absurd (h y (omega arith) (omega arith) o)) (cases_eq y x))
  smaller-is x k (Some z) ox h =
      cond_both (ltb (size (T z) w) (size (T x) w)) z x (λ u. Among Before x (suc k) (Some u))
      (λ t. let lt = ltb-true (size (T z) w) (size (T x) w) t in
      (h.0, λ y le lt' o. ⊎_elim (λ q. inl (subst (λ (u : ℕ). size (T z) w < size (T u) w) (sym q) lt)) (λ q. h.1 y (omega arith) (omega arith) o) (cases_eq y x)))
      (λ f. let le = ltb-false (size (T z) w) (size (T x) w) f in
      (ox, λ y xy lt o. ⊎_elim (λ q. inr (ap (λ (z : ℕ). size (T z) w) (sym q), xy)) (λ q. after y xy (h.1 y (omega arith) (omega arith) o) le) (cases_eq y x)))
    where
      after : (y : ℕ) → x ≤ y → Before z y → size (T x) w ≤ size (T z) w → Before x y
      after y xy (inl k) le = inl (omega arith)
      after y xy (inr k) le = ⊎_elim (λ e. inr (e, xy)) (λ ne. inl (omega arith)) (cases_eq (size (T x) w) (size (T y) w))

  smallest-is : (k x : ℕ) → Among Before x k (smallest w T x k)
  smallest-is zero x = λ y le lt o. omega arith
  smallest-is (suc k) x =
      cond_both (ltb 1 (size (T x) w)) (Some (smaller w T x (smallest w T (suc x) k))) (smallest w T (suc x) k) (Among Before x (suc k))
      (λ t. smaller-is x k (smallest w T (suc x) k) (wide_open x t) (smallest-is k (suc x)))
      (λ f. skip Before x k (smallest w T (suc x) k) f (smallest-is k (suc x)))

  -- the ends of an open domain

  abbrev bottom : ℕ → ℕ
  bottom x = least (T x) 0 w

  abbrev top : ℕ → ℕ
  top x = greatest (T x) w

  bottom-is : (x u : ℕ) → T x u ≡ true → (T x (bottom x) ≡ true) × (bottom x ≤ u)
  bottom-is x u h = let lt = (b x u h).1 in least-bottom (T x) 0 w u (omega arith) (omega arith) h

  top_is : (x u : ℕ) → T x u ≡ true → (T x (top x) ≡ true) × (u ≤ top x)
  top_is x u h = let p = greatest-top (T x) w u (b x u h).1 h in (p.0, p.2)

  -- the two rules

  first_pairs : Pairs ◌≤◌ bottom (first n w T)
  first_pairs = pairs ◌≤◌ bottom (lowest w T 0 n) (lowest-is n 0)

  small_pairs : Pairs Before top (small n w T)
  small_pairs = pairs Before top (smallest w T 0 n) (smallest-is n 0)

  first_picked : (o : Option (ℕ × ℕ)) → Pairs ◌≤◌ bottom o → Picked P T o
  first_picked None h = h
  first_picked (Some p) h = (h.0, record { is_open = h.1; has = subst (λ (v : ℕ). T p.0 v ≡ true) (sym h.2) (bottom-is p.0 h.1.one h.1.has_one).0 })

  small_picked : (o : Option (ℕ × ℕ)) → Pairs Before top o → Picked P T o
  small_picked None h = h
  small_picked (Some p) h = (h.0, record { is_open = h.1; has = subst (λ (v : ℕ). T p.0 v ≡ true) (sym h.2) (top_is p.0 h.1.one h.1.has_one).0 })

  first-from : (o : Option (ℕ × ℕ)) (x v : ℕ) → Pairs ◌≤◌ bottom o → o ≡ Some (x, v) → Full P T × First T x v
  first-from o x v h e =
      let k = subst (Pairs ◌≤◌ bottom) e h in
      let p = subst (Picked P T) e (first_picked o h) in
      (k.0, record { choice = p.1; lowest = k.3; least = λ u t. subst (λ (z : ℕ). z ≤ u) (sym k.2) (bottom-is x u t).1 })

  small-from : (o : Option (ℕ × ℕ)) (x v : ℕ) → Pairs Before top o → o ≡ Some (x, v) → Full P T × Small w T x v
  small-from o x v h e =
      let k = subst (Pairs Before top) e h in
      let p = subst (Picked P T) e (small_picked o h) in
      (k.0, record { choice = p.1; smallest = k.3; greatest = λ u t. subst (λ (z : ℕ). u ≤ z) (sym k.2) (top_is x u t).1 })

  first_to : (x v : ℕ) → Full P T → First T x v → first n w T ≡ Some (x, v)
  first_to x v f h =
      let low = bottom-is x v h.choice.has in
      let e : bottom x ≡ v = let le = h.least (bottom x) low.0 in omega (arith, low.1) in
      only ◌≤◌ bottom (first n w T) first_pairs (λ y z j k. omega arith) f x h.choice.is_open h.lowest ∙ ap (λ (u : ℕ). Some (x, u)) e

  small-to : (x v : ℕ) → Full P T → Small w T x v → small n w T ≡ Some (x, v)
  small-to x v f h =
      let high = top_is x v h.choice.has in
      let e : top x ≡ v = let le = h.greatest (top x) high.0 in omega (arith, high.1) in
      only Before top (small n w T) small_pairs before_anti f x h.choice.is_open h.smallest ∙ ap (λ (u : ℕ). Some (x, u)) e

  pub first_law : Picked P T (first n w T)
  first_law = first_picked (first n w T) first_pairs

  pub small_law : Picked P T (small n w T)
  small_law = small_picked (small n w T) small_pairs

  pub first-is : (x v : ℕ) → (first n w T ≡ Some (x, v)) ↔ (Full P T × First T x v)
  first-is x v = (first-from (first n w T) x v first_pairs, λ h. first_to x v h.0 h.1)

  pub small_is : (x v : ℕ) → (small n w T ≡ Some (x, v)) ↔ (Full P T × Small w T x v)
  small_is x v = (small-from (small n w T) x v small_pairs, λ h. small-to x v h.0 h.1)
