-- What stands in a list stands at a place of it. Assumes nothing.
use Rattle.std.specs.Prelude.{◌≡◌, ℕ, zero, suc, ◌<◌, true, false, List, [], ◌∷◌, length, ◌==◌, slice_index, refl}
use Rattle.std.proofs.Common.{sym, ⊎_elim, arith}
use Rattle.std.proofs.lemmas.Bool.{or_cases, or_left, or_right, both_ways, eqb-true, eq-eqb}
use Rattle.model.specs.Reading.{among}

pub at-among : (xs : List ℕ) (k : ℕ) → k < length xs → among (slice_index xs k) xs ≡ true
at-among [] k l = absurd (omega arith)
at-among (x ∷ xs) zero l = or_left (x == x) (among x xs) (eq-eqb x x refl)
at-among (x ∷ xs) (suc k) l = or_right (slice_index xs k == x) (among (slice_index xs k) xs) (at-among xs k (omega arith))

pub among-at : (xs : List ℕ) (x : ℕ) → among x xs ≡ true → (k : ℕ) × (k < length xs) × (slice_index xs k ≡ x)
among-at [] x h = absurd (both_ways false refl h)
among-at (y ∷ ys) x h = ⊎_elim (λ e. (0, omega arith, sym (eqb-true x y e))) (λ e. let p = among-at ys x e in (suc p.0, omega (arith, p.1), p.2)) (or_cases (x == y) (among x ys) h)
