-- The examples keep the laws. Assumes nothing.
use Rattle.std.proofs.Common.{◌≡◌, ℕ, ◌+◌, ◌<◌, ◌≤◌, Bool, true, false, not, ◌&&◌, ◌||◌, eqb, ltb, leb, List, [], ◌∷◌, get_or, sym, refl, ap, ◌∙◌, subst, ap₂, ⊎_elim, arith}
use Rattle.std.proofs.lemmas.Bool.{and_parts, and_from, or_cases, not-true, not_from_false, both_ways, cases_Bool, eqb-true, eq-eqb, ltb-true, leb-true, le-leb}
use Rattle.tree.specs.Tables.{Table, Inside, join, single}
use Rattle.tree.specs.Domains.{has_some, every}
use Rattle.tree.specs.Filter.{Problem, Lawful, Bounded, Full}
use Rattle.tree.specs.Examples.{Constraint, lone, differ, at_most, all_stable, problem, two_apart, apart_base, two_in_order, order_base}
use Rattle.tree.proofs.Tables.{same_test, join-left, join_right}
use Rattle.tree.proofs.Domains.{has_some_from, has_some_to, every-from, every-to, implied, implies, clash, no_clash}
use Rattle.tree.proofs.Filter.{join-bounded}
use Rattle.tree.proofs.Singles.{single-has, single-is, single-length}

module _ (n w : ℕ) where
  -- a constraint by itself
  abbrev Keeps : Constraint → Type 0
  Keeps d = Lawful (problem n w (d ∷ []))

  abbrev Q : Problem
  Q = problem n w []

  and_true : (a : Bool) → a ≡ true → (a && true) ≡ true
  and_true a e = and_from a true e refl

  from_laws : (d : Constraint)
      → ((S T : Table) → Bounded Q S → Bounded Q T → Full Q S → Full Q T → d.stable S ≡ true → d.stable T ≡ true → d.stable (join S T) ≡ true)
      → ((a : List ℕ) → Bounded Q (single a) → Full Q (single a) → d.stable (single a) ≡ d.meets a)
      → Keeps d
  from_laws d f g = record {
    joins = λ S T bs bt fs ft es et. and_true (d.stable (join S T)) (f S T bs bt fs ft (and_parts (d.stable S) true es).0 (and_parts (d.stable T) true et).0);
    singles = λ a b f. ap (λ (t : Bool). t && true) (g a b f);
  }

  abbrev AllKeep : List Constraint → Type 0
  AllKeep [] = Unit {0}
  AllKeep (d ∷ ds) = Keeps d × AllKeep ds

  pub problem-lawful : (ds : List Constraint) → AllKeep ds → Lawful (problem n w ds)
  problem-lawful [] k = record { joins = λ S T bs bt fs ft es et. refl; singles = λ a b f. refl }
  problem-lawful (d ∷ ds) k =
      let r = problem-lawful ds k.1 in
      record {
        joins = λ S T bs bt fs ft es et.
            let p = and_parts (d.stable S) (all_stable ds S) es in
            let q = and_parts (d.stable T) (all_stable ds T) et in
            and_from (d.stable (join S T)) (all_stable ds (join S T))
            (and_parts (d.stable (join S T)) true (k.0.joins S T bs bt fs ft (and_true (d.stable S) p.0) (and_true (d.stable T) q.0))).0
            (r.joins S T bs bt fs ft p.1 q.1);
        singles = λ a b f. ap₂ ◌&&◌ (one (d.stable (single a)) (d.meets a) (k.0.singles a b f)) (r.singles a b f);
      }
    where
      one : (s t : Bool) → (s && true) ≡ (t && true) → s ≡ t
      one true true e = refl
      one true false e = e
      one false true e = e
      one false false e = refl

  module _ (x y : ℕ) (x< : x < n) (y< : y < n) where
    abbrev Lone : Table → ℕ → Type 0
    Lone T v = (T x v ≡ true) × ((u : ℕ) → T x u ≡ true → u ≡ v)

    lone-from : (T : Table) (v : ℕ) → Lone T v → lone w T x v ≡ true
    lone-from T v l = and_from (T x v) (every w (λ u. not (T x u) || eqb u v)) l.0 (every-from w (λ u. not (T x u) || eqb u v) (λ u h. implies (T x u) (eqb u v) (λ e. eq-eqb u v (l.1 u e))))

    lone-to : (T : Table) (v : ℕ) → Bounded Q T → lone w T x v ≡ true → Lone T v
    lone-to T v b e =
        let p = and_parts (T x v) (every w (λ u. not (T x u) || eqb u v)) e in
        (p.0, λ u h. eqb-true u v (implied (T x u) (eqb u v) (every-to w (λ u. not (T x u) || eqb u v) p.1 u (b x u h).1) h))

    differ-to : (T : Table) (v : ℕ) → Bounded Q T → (differ w x y).stable T ≡ true → Lone T v → T y v ≡ true → ⊥
    differ-to T v b e l h = clash (lone w T x v) (T y v) (every-to w (λ v. not (lone w T x v && T y v)) e v (b y v h).1) (lone-from T v l) h

    differ-from : (T : Table) → Bounded Q T → ((v : ℕ) → Lone T v → T y v ≡ true → ⊥) → (differ w x y).stable T ≡ true
    differ-from T b f = every-from w (λ v. not (lone w T x v && T y v)) (λ v h. no_clash (lone w T x v) (T y v) (λ e. f v (lone-to T v b e)))

    lone-part : (S U : Table) (v : ℕ) → Inside S U → Full Q S → Lone U v → Lone S v
    lone-part S U v i f l =
        let t = f x x< in
        (ap (S x) (sym (l.1 t.0 (i x t.0 t.1))) ∙ t.1, λ u h. l.1 u (i x u h))

    pub differ_keeps : Keeps (differ w x y)
    differ_keeps = from_laws (differ w x y)
        (λ S T bs bt fs ft es et. differ-from (join S T) (join-bounded Q S T bs bt) (λ v l h.
        ⊎_elim (differ-to S v bs es (lone-part S (join S T) v (join-left S T) fs l)) (differ-to T v bt et (lone-part T (join S T) v (join_right S T) ft l)) (or_cases (S y v) (T y v) h)))
        (λ a b f.
        let long = single-length Q a b f in
        same_test ((differ w x y).stable (single a)) (not (eqb (get_or a x 0) (get_or a y 0)))
        (λ e. not_from_false (eqb (get_or a x 0) (get_or a y 0)) (⊎_elim
        (λ q. absurd (differ-to (single a) (get_or a x 0) b e
        (single-has a x (get_or a x 0) (omega arith) refl, λ u h. (single-is a x u h).1)
        (single-has a y (get_or a x 0) (omega arith) (eqb-true (get_or a x 0) (get_or a y 0) q))))
        (λ q. q) (cases_Bool (eqb (get_or a x 0) (get_or a y 0)))))
        (λ e. differ-from (single a) b (λ v l h. both_ways (eqb (get_or a x 0) (get_or a y 0)) (not-true (eqb (get_or a x 0) (get_or a y 0)) e) (eq-eqb (get_or a x 0) (get_or a y 0) (sym (single-is a x v l.0).1 ∙ (single-is a y v h).1)))))

  module _ (x p y q : ℕ) (x< : x < n) (y< : y < n) where
    -- each value of x goes with one of y, and each of y with one of x
    record Goes (T : Table) : Type 0 where
      up : (v : ℕ) → T x v ≡ true → (u : ℕ) × (T y u ≡ true) × (v + p ≤ u + q)
      down : (u : ℕ) → T y u ≡ true → (v : ℕ) × (T x v ≡ true) × (v + p ≤ u + q)

    abbrev above : Table → ℕ → ℕ → Bool
    above T v u = T y u && leb (v + p) (u + q)

    abbrev below : Table → ℕ → ℕ → Bool
    below T u v = T x v && leb (v + p) (u + q)

    goes_to : (T : Table) → Bounded Q T → (at_most w x p y q).stable T ≡ true → Goes T
    goes_to T b e =
        let k = and_parts (every w (λ v. not (T x v) || has_some (above T v) w)) (every w (λ u. not (T y u) || has_some (below T u) w)) e in
        record {
          up = λ v h.
              let s = has_some_to (above T v) w (implied (T x v) (has_some (above T v) w) (every-to w (λ v. not (T x v) || has_some (above T v) w) k.0 v (b x v h).1) h) in
              let r = and_parts (T y s.0) (leb (v + p) (s.0 + q)) s.1 in
              (s.0, r.0, leb-true (v + p) (s.0 + q) r.1);
          down = λ u h.
              let s = has_some_to (below T u) w (implied (T y u) (has_some (below T u) w) (every-to w (λ u. not (T y u) || has_some (below T u) w) k.1 u (b y u h).1) h) in
              let r = and_parts (T x s.0) (leb (s.0 + p) (u + q)) s.1 in
              (s.0, r.0, leb-true (s.0 + p) (u + q) r.1);
        }

    goes_from : (T : Table) → Bounded Q T → Goes T → (at_most w x p y q).stable T ≡ true
    goes_from T b g = and_from (every w (λ v. not (T x v) || has_some (above T v) w)) (every w (λ u. not (T y u) || has_some (below T u) w))
        (every-from w (λ v. not (T x v) || has_some (above T v) w) (λ v l. implies (T x v) (has_some (above T v) w) (λ h.
        let s = g.up v h in has_some_from (above T v) w s.0 (b y s.0 s.1).1 (and_from (T y s.0) (leb (v + p) (s.0 + q)) s.1 (le-leb (v + p) (s.0 + q) s.2)))))
        (every-from w (λ u. not (T y u) || has_some (below T u) w) (λ u l. implies (T y u) (has_some (below T u) w) (λ h.
        let s = g.down u h in has_some_from (below T u) w s.0 (b x s.0 s.1).1 (and_from (T x s.0) (leb (s.0 + p) (u + q)) s.1 (le-leb (s.0 + p) (u + q) s.2)))))

    pub at_most_keeps : Keeps (at_most w x p y q)
    at_most_keeps = from_laws (at_most w x p y q)
        (λ S T bs bt fs ft es et.
        let g = goes_to S bs es in
        let h = goes_to T bt et in
        goes_from (join S T) (join-bounded Q S T bs bt) (record {
          up = λ v e. ⊎_elim (λ k. let s = g.up v k in (s.0, join-left S T y s.0 s.1, s.2)) (λ k. let s = h.up v k in (s.0, join_right S T y s.0 s.1, s.2)) (or_cases (S x v) (T x v) e);
          down = λ u e. ⊎_elim (λ k. let s = g.down u k in (s.0, join-left S T x s.0 s.1, s.2)) (λ k. let s = h.down u k in (s.0, join_right S T x s.0 s.1, s.2)) (or_cases (S y u) (T y u) e);
        }))
        (λ a b f.
        let long = single-length Q a b f in
        let hx = single-has a x (get_or a x 0) (omega arith) refl in
        let hy = single-has a y (get_or a y 0) (omega arith) refl in
        same_test ((at_most w x p y q).stable (single a)) (leb (get_or a x 0 + p) (get_or a y 0 + q))
        (λ e.
        let s = (goes_to (single a) b e).up (get_or a x 0) hx in
        let r = (single-is a y s.0 s.1).1 in
        le-leb (get_or a x 0 + p) (get_or a y 0 + q) (subst (λ (z : ℕ). get_or a x 0 + p ≤ z + q) r s.2))
        (λ e.
        let le = leb-true (get_or a x 0 + p) (get_or a y 0 + q) e in
        goes_from (single a) b (record {
          up = λ v h. (get_or a y 0, hy, omega (arith, (single-is a x v h).1, le));
          down = λ u h. (get_or a x 0, hx, omega (arith, (single-is a y u h).1, le));
        })))

pub two_apart-lawful : Lawful two_apart
two_apart-lawful = problem-lawful 2 3 (differ 3 0 1 ∷ differ 3 1 0 ∷ []) (differ_keeps 2 3 0 1 (omega arith) (omega arith), (differ_keeps 2 3 1 0 (omega arith) (omega arith), tt))

pub two_in_order-lawful : Lawful two_in_order
two_in_order-lawful = problem-lawful 2 3 (at_most 3 0 1 1 0 ∷ []) (at_most_keeps 2 3 0 1 1 0 (omega arith) (omega arith), tt)

pub apart_bounded : Bounded two_apart apart_base
apart_bounded x v h =
    ⊎_elim
    (λ e. let p = and_parts (eqb x 0) (ltb v 2) e in (omega (arith, eqb-true x 0 p.0), omega (arith, ltb-true v 2 p.1)))
    (λ e. let p = and_parts (eqb x 1) (ltb v 3) e in (omega (arith, eqb-true x 1 p.0), omega (arith, ltb-true v 3 p.1)))
    (or_cases (eqb x 0 && ltb v 2) (eqb x 1 && ltb v 3) h)

pub order_bounded : Bounded two_in_order order_base
order_bounded x v h = let p = and_parts (ltb x 2) (ltb v 3) h in (ltb-true x 2 p.0, ltb-true v 3 p.1)
