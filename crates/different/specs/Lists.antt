-- Tests of all of a list, and of all pairs of it. Assumes nothing.
use Rattle.std.specs.Prelude.{◌≡◌, ℕ, Bool, true, false, ◌||◌, ◌≢◌, List, [], ◌∷◌, ◌==◌, refl}
use Rattle.std.proofs.Common.{sym, ap, ◌∙◌, ⊎_elim}
use Rattle.std.proofs.lemmas.Bool.{and_parts, and_from, or_cases, or_left, or_right, both_ways, eqb-true, eq-eqb, cases_eq}
use Rattle.tree.proofs.Tables.{same_test}
use Rattle.model.specs.Reading.{among}
use Rattle.different.specs.Different.{each, pairs}

each_from : (xs : List ℕ) (f : ℕ → Bool) → ((x : ℕ) → among x xs ≡ true → f x ≡ true) → each xs f ≡ true
each_from [] f h = refl
each_from (x ∷ xs) f h = and_from (f x) (each xs f) (h x (or_left (x == x) (among x xs) (eq-eqb x x refl))) (each_from xs f (λ y e. h y (or_right (y == x) (among y xs) e)))

each_to : (xs : List ℕ) (f : ℕ → Bool) → each xs f ≡ true → (x : ℕ) → among x xs ≡ true → f x ≡ true
each_to [] f e x h = absurd (both_ways false refl h)
each_to (y ∷ ys) f e x h =
    let p = and_parts (f y) (each ys f) e in
    ⊎_elim (λ q. ap f (eqb-true x y q) ∙ p.0) (each_to ys f p.1 x) (or_cases (x == y) (among x ys) h)

abbrev pub AllPairs : List ℕ → (ℕ → ℕ → Type 0) → Type 0
AllPairs xs Q = (x y : ℕ) → among x xs ≡ true → among y xs ≡ true → x ≢ y → Q x y

pub pairs-from : (xs : List ℕ) (f : ℕ → ℕ → Bool) → AllPairs xs (λ x y. f x y ≡ true) → pairs xs f ≡ true
pairs-from xs f h =
    each_from xs (λ x. each xs (λ y. (x == y) || f x y)) (λ x ax. each_from xs (λ y. (x == y) || f x y) (λ y ay.
    ⊎_elim (λ q. or_left (x == y) (f x y) (eq-eqb x y q)) (λ d. or_right (x == y) (f x y) (h x y ax ay d)) (cases_eq x y)))

pub pairs-to : (xs : List ℕ) (f : ℕ → ℕ → Bool) → pairs xs f ≡ true → AllPairs xs (λ x y. f x y ≡ true)
pairs-to xs f e x y ax ay d =
    ⊎_elim (λ q. absurd (d (eqb-true x y q))) (λ q. q)
    (or_cases (x == y) (f x y) (each_to xs (λ z. (x == z) || f x z) (each_to xs (λ z. each xs (λ u. (z == u) || f z u)) e x ax) y ay))

pub pairs-same : (xs : List ℕ) (f g : ℕ → ℕ → Bool) → AllPairs xs (λ x y. f x y ≡ g x y) → pairs xs f ≡ pairs xs g
pairs-same xs f g h =
    same_test (pairs xs f) (pairs xs g)
    (λ e. pairs-from xs g (λ x y ax ay d. sym (h x y ax ay d) ∙ pairs-to xs f e x y ax ay d))
    (λ e. pairs-from xs f (λ x y ax ay d. h x y ax ay d ∙ pairs-to xs g e x y ax ay d))
