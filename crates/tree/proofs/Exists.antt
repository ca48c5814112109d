-- Each table has a node: that two stable tables joined are stable is used here, once. Assumes nothing.
use Rattle.std.proofs.Common.{◌≡◌, ℕ, zero, suc, ◌<◌, true, false, cond, ◌⊎◌, List, [], ◌∷◌, sym, refl, ap, ◌∙◌, ap₂, inl, inr, ⊎_elim, arith}
use Rattle.std.proofs.lemmas.Bool.{and_parts, and_from, both_ways, cases_eq, cases_Bool, cond_both}
use Rattle.tree.specs.Tables.{Table, Inside, join, dropped}
use Rattle.tree.specs.Filter.{Problem, Lawful, Bounded, Full, Fits, Node, failed, table, NodeOf}
use Rattle.tree.specs.Domains.{has_some}
use Rattle.tree.specs.Find.{is_full, grid, cells, either, best, node}
use Rattle.tree.proofs.Tables.{inside_both, inside_trans, join-left, join_right, join-least, dropped-inside, dropped-has, dropped-not}
use Rattle.tree.proofs.Domains.{has_some_from, has_some_to}
use Rattle.tree.proofs.Pairs.{In, in_grid, in_cells}
use Rattle.tree.proofs.Filter.{bounded-inside, fits_wider}

-- the test of a full table

pub is_full_from : (n w : ℕ) (T : Table) → ((x : ℕ) → x < n → (v : ℕ) × (v < w) × (T x v ≡ true)) → is_full n w T ≡ true
is_full_from zero w T f = refl
is_full_from (suc n) w T f =
    let t = f n (omega arith) in
    and_from (has_some (T n) w) (is_full n w T) (has_some_from (T n) w t.0 t.1 t.2) (is_full_from n w T (λ x h. f x (omega arith)))

pub is_full_to : (n w : ℕ) (T : Table) → is_full n w T ≡ true → (x : ℕ) → x < n → (v : ℕ) × (T x v ≡ true)
is_full_to zero w T e x h = absurd (omega arith)
is_full_to (suc n) w T e x h =
    let parts = and_parts (has_some (T n) w) (is_full n w T) e in
    let t = has_some_to (T n) w parts.0 in
    ⊎_elim (λ q. (t.0, ap (λ (y : ℕ). T y t.0) q ∙ t.1)) (λ q. is_full_to n w T parts.1 x (omega arith)) (cases_eq x n)

module _ (P : Problem) (laws : Lawful P) where
  -- a node that is a table fits D
  abbrev Sound : Table → Node → Type 0
  Sound D failed = Unit {0}
  Sound D (table S) = Fits P D S

  -- a node that holds S
  abbrev Holds : Table → Node → Type 0
  Holds S failed = ⊥
  Holds S (table T) = Inside S T

  sound_wider : (D E : Table) (N : Node) → Inside D E → Sound D N → Sound E N
  sound_wider D E failed i s = tt
  sound_wider D E (table S) i s = fits_wider P D E S (inside_trans S D E s.inside i) s

  either_sound : (D : Table) (M N : Node) → Bounded P D → Sound D M → Sound D N → Sound D (either M N)
  either_sound D failed N b s t = t
  either_sound D (table S) failed b s t = s
  either_sound D (table S) (table T) b s t = record {
    inside = join-least S T D s.inside t.inside;
    full = λ x h. let k = s.full x h in (k.0, join-left S T x k.0 k.1);
    stable = laws.joins S T (bounded-inside P S D s.inside b) (bounded-inside P T D t.inside b) s.full t.full s.stable t.stable;
  }

  either_left : (S : Table) (M N : Node) → Holds S M → Holds S (either M N)
  either_left S failed N h = absurd h
  either_left S (table T) failed h = h
  either_left S (table T) (table U) h = inside_trans S T (join T U) h (join-left T U)

  either_right : (S : Table) (M N : Node) → Holds S N → Holds S (either M N)
  either_right S failed N h = h
  either_right S (table T) failed h = absurd h
  either_right S (table T) (table U) h = inside_trans S U (join T U) h (join_right T U)

  settle_sound : (T : Table) (N : Node) → Sound T N → Sound T (cond (is_full P.variables P.width T) (cond (P.stable T) (table T) N) failed)
  settle_sound T N s =
      cond_both (is_full P.variables P.width T) (cond (P.stable T) (table T) N) failed (Sound T)
      (λ f. cond_both (P.stable T) (table T) N (Sound T) (λ e. record { inside = λ x v h. h; full = is_full_to _ _ T f; stable = e }) (λ e. s))
      (λ f. tt)

  best_sound : (ps : List (ℕ × ℕ)) (T : Table) → Bounded P T → Sound T (best P ps T)
  best_sound [] T b = settle_sound T failed tt
  best_sound (p ∷ ps) T b =
      let D = dropped p.0 p.1 T in
      let i = dropped-inside p.0 p.1 T in
      settle_sound T (either (best P ps T) (best P ps D)) (either_sound T (best P ps T) (best P ps D) b (best_sound ps T b) (sound_wider D T (best P ps D) i (best_sound ps D (bounded-inside P D T i b))))

  module _ (S : Table) (full : Full P S) (stable : P.stable S ≡ true) where
    settle_holds : (T : Table) (N : Node) → Bounded P T → Inside S T → (P.stable T ≡ false → Holds S N) → Holds S (cond (is_full P.variables P.width T) (cond (P.stable T) (table T) N) failed)
    settle_holds T N b i f =
        cond_both (is_full P.variables P.width T) (cond (P.stable T) (table T) N) failed (Holds S)
        (λ e. cond_both (P.stable T) (table T) N (Holds S) (λ t. i) f)
        (λ e. both_ways (is_full P.variables P.width T) e (is_full_from _ _ T (λ x h. let k = full x h in let t = i x k.0 k.1 in (k.0, (b x k.0 t).1, t))))

    best-holds : (ps : List (ℕ × ℕ)) (T : Table) → Bounded P T → Inside S T → ((x v : ℕ) → T x v ≡ true → (S x v ≡ true) ⊎ In x v ps) → Holds S (best P ps T)
    best-holds [] T b i a =
        settle_holds T failed b i (λ e. both_ways (P.stable T) e (ap P.stable (sym same) ∙ stable))
      where
        same : S ≡ T
        same = inside_both S T i (λ x v h. ⊎_elim (λ q. q) absurd (a x v h))
    best-holds (p ∷ ps) T b i a =
        let D = dropped p.0 p.1 T in
        let j = dropped-inside p.0 p.1 T in
        settle_holds T (either (best P ps T) (best P ps D)) b i (λ e. ⊎_elim
        (λ has. either_left S (best P ps T) (best P ps D) (best-holds ps T b i (λ x v h. ⊎_elim inl (⊎_elim (λ q. inl (ap₂ S q.0 q.1 ∙ has)) inr) (a x v h))))
        (λ lacks. either_right S (best P ps T) (best P ps D) (best-holds ps D (bounded-inside P D T j b)
        (λ x v h. dropped-has p.0 p.1 T x v (i x v h) (λ q. both_ways (S p.0 p.1) lacks (sym (ap₂ S q.0 q.1) ∙ h)))
        (λ x v h. ⊎_elim inl (⊎_elim (λ q. absurd (dropped-not p.0 p.1 T x v h q)) inr) (a x v (j x v h)))))
        (cases_Bool (S p.0 p.1)))

  -- `node` finds the node of D
  pub node-is : (D : Table) → Bounded P D → NodeOf P D (node P D)
  node-is D b = done (node P D) (best_sound ps D b) (λ S f. best-holds S f.full f.stable ps D b f.inside (λ x v h. inr (in_cells D x v (grid P.variables P.width) h (in_grid _ _ x v (b x v h).0 (b x v h).1))))
    where
      ps : List (ℕ × ℕ)
      ps = cells D (grid P.variables P.width)

      done : (N : Node) → Sound D N → ((S : Table) → Fits P D S → Holds S N) → NodeOf P D N
      done failed s h = h
      done (table T) s h = record { fits = s; largest = h }
