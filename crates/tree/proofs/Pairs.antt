-- The pairs of a table, and how many there are. Assumes nothing.
use Rattle.std.proofs.Common.{◌≡◌, ℕ, zero, suc, ◌+◌, ◌*◌, ◌<◌, ◌≤◌, true, false, ◌⊎◌, List, [], ◌∷◌, ◌++◌, sym, refl, ◌∙◌, subst, ap₂, inl, inr, ⊎_elim, suc-mul, arith}
use Rattle.std.proofs.lemmas.Bool.{both_ways, cases_eq, cases_Bool, cond_both, cond-true, cond-false}
use Rattle.tree.specs.Tables.{Table, Inside, Open, kept, dropped}
use Rattle.tree.specs.Filter.{Problem, Bounded}
use Rattle.tree.specs.Find.{row, grid, cells, count, total}
use Rattle.tree.proofs.Tables.{kept-inside, kept-is, dropped-inside, dropped-not}

abbrev pub In : ℕ → ℕ → List (ℕ × ℕ) → Type 0
In x v [] = ⊥
In x v (p ∷ ps) = ((x ≡ p.0) × (v ≡ p.1)) ⊎ In x v ps

in_left : (x v : ℕ) (ps qs : List (ℕ × ℕ)) → In x v ps → In x v (ps ++ qs)
in_left x v [] qs i = absurd i
in_left x v (p ∷ ps) qs (inl e) = inl e
in_left x v (p ∷ ps) qs (inr i) = inr (in_left x v ps qs i)

in_right : (x v : ℕ) (ps qs : List (ℕ × ℕ)) → In x v qs → In x v (ps ++ qs)
in_right x v [] qs i = i
in_right x v (p ∷ ps) qs i = inr (in_right x v ps qs i)

in_row : (x w v : ℕ) → v < w → In x v (row x w)
in_row x zero v h = absurd (omega arith)
in_row x (suc w) v h = ⊎_elim (λ q. inl (refl, q)) (λ q. inr (in_row x w v (omega arith))) (cases_eq v w)

pub in_grid : (n w x v : ℕ) → x < n → v < w → In x v (grid n w)
in_grid zero w x v h k = absurd (omega arith)
in_grid (suc n) w x v h k =
    ⊎_elim
    (λ q. in_left x v (row n w) (grid n w) (subst (λ (y : ℕ). In x v (row y w)) q (in_row x w v k)))
    (λ q. in_right x v (row n w) (grid n w) (in_grid n w x v (omega arith) k))
    (cases_eq x n)

pub in_cells : (T : Table) (x v : ℕ) (ps : List (ℕ × ℕ)) → T x v ≡ true → In x v ps → In x v (cells T ps)
in_cells T x v [] h i = absurd i
in_cells T x v (p ∷ ps) h (inl e) =
    cond_both (T p.0 p.1) (p ∷ cells T ps) (cells T ps) (In x v) (λ t. inl e) (λ f. absurd (both_ways (T p.0 p.1) f (sym (ap₂ T e.0 e.1) ∙ h)))
in_cells T x v (p ∷ ps) h (inr i) =
    let r = in_cells T x v ps h i in
    cond_both (T p.0 p.1) (p ∷ cells T ps) (cells T ps) (In x v) (λ t. inr r) (λ f. r)

pub count-inside : (ps : List (ℕ × ℕ)) (S T : Table) → Inside S T → count ps S ≤ count ps T
count-inside [] S T i = omega arith
count-inside (p ∷ ps) S T i =
    let le = count-inside ps S T i in
    cond_both (S p.0 p.1) (suc (count ps S)) (count ps S) (λ c. c ≤ count (p ∷ ps) T)
    (λ s. cond_both (T p.0 p.1) (suc (count ps T)) (count ps T) (λ d. suc (count ps S) ≤ d) (λ t. omega arith) (λ t. absurd (both_ways (T p.0 p.1) t (i p.0 p.1 s))))
    (λ s. cond_both (T p.0 p.1) (suc (count ps T)) (count ps T) (λ d. count ps S ≤ d) (λ t. omega arith) (λ t. omega arith))

pub count_less : (ps : List (ℕ × ℕ)) (S T : Table) (x v : ℕ) → Inside S T → In x v ps → T x v ≡ true → S x v ≡ false → count ps S < count ps T
count_less [] S T x v i m t s = absurd m
count_less (p ∷ ps) S T x v i (inl e) t s =
    let le = count-inside ps S T i in
    cond_both (S p.0 p.1) (suc (count ps S)) (count ps S) (λ c. c < count (p ∷ ps) T)
    (λ k. absurd (both_ways (S x v) s (ap₂ S e.0 e.1 ∙ k)))
    (λ k. cond_both (T p.0 p.1) (suc (count ps T)) (count ps T) (λ d. count ps S < d) (λ j. omega arith) (λ j. absurd (both_ways (T x v) (ap₂ T e.0 e.1 ∙ j) t)))
count_less (p ∷ ps) S T x v i (inr m) t s =
    let lt = count_less ps S T x v i m t s in
    cond_both (S p.0 p.1) (suc (count ps S)) (count ps S) (λ c. c < count (p ∷ ps) T)
    (λ k. cond_both (T p.0 p.1) (suc (count ps T)) (count ps T) (λ d. suc (count ps S) < d) (λ j. omega arith) (λ j. absurd (both_ways (T p.0 p.1) j (i p.0 p.1 k))))
    (λ k. cond_both (T p.0 p.1) (suc (count ps T)) (count ps T) (λ d. count ps S < d) (λ j. omega arith) (λ j. omega arith))

-- no more pairs than variables times values

count-append : (ps qs : List (ℕ × ℕ)) (T : Table) → count (ps ++ qs) T ≡ count ps T + count qs T
count-append [] qs T = omega arith
count-append (p ∷ ps) qs T =
    let e = count-append ps qs T in
    cond_both (T p.0 p.1) (suc (count ps T)) (count ps T) (λ k. count ((p ∷ ps) ++ qs) T ≡ k + count qs T)
    (λ t. cond-true (T p.0 p.1) (suc (count (ps ++ qs) T)) (count (ps ++ qs) T) t ∙ omega arith)
    (λ f. cond-false (T p.0 p.1) (suc (count (ps ++ qs) T)) (count (ps ++ qs) T) f ∙ e)

count-row : (x w : ℕ) (T : Table) → count (row x w) T ≤ w
count-row x zero T = omega arith
count-row x (suc w) T = let le = count-row x w T in cond_both (T x w) (suc (count (row x w) T)) (count (row x w) T) (λ k. k ≤ suc w) (λ t. omega arith) (λ f. omega arith)

pub count-grid : (n w : ℕ) (T : Table) → count (grid n w) T ≤ n * w
count-grid zero w T = omega arith
count-grid (suc n) w T =
    let e = count-append (row n w) (grid n w) T in
    let r = count-row n w T in
    let g = count-grid n w T in
    let m : suc n * w ≡ n * w + w = suc-mul n w in
    omega arith

-- A choice takes a value away, on either side.
module _ (P : Problem) where
  pub loses : (S T : Table) (x v : ℕ) → Bounded P T → Inside S T → T x v ≡ true → (S x v ≡ true → ⊥) → total P S < total P T
  loses S T x v b i t n =
      count_less (grid P.variables P.width) S T x v i (in_grid _ _ x v (b x v t).0 (b x v t).1) t (⊎_elim (λ s. absurd (n s)) (λ s. s) (cases_Bool (S x v)))

  pub kept_less : (T : Table) (x v : ℕ) → Bounded P T → Open T x → total P (kept x v T) < total P T
  kept_less T x v b o =
      ⊎_elim
      (λ e. loses (kept x v T) T x o.other b (kept-inside x v T) o.has_other (λ h. o.apart (e ∙ sym (kept-is x v T x o.other h refl))))
      (λ ne. loses (kept x v T) T x o.one b (kept-inside x v T) o.has_one (λ h. ne (kept-is x v T x o.one h refl)))
      (cases_eq o.one v)

  pub dropped_less : (T : Table) (x v : ℕ) → Bounded P T → T x v ≡ true → total P (dropped x v T) < total P T
  dropped_less T x v b t = loses (dropped x v T) T x v b (dropped-inside x v T) t (λ h. dropped-not x v T x v h (refl, refl))
