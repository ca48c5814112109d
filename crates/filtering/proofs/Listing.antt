-- The members of a set as the list of them. Assumes nothing.
use Rattle.std.proofs.Common.{◌≡◌, ℕ, zero, suc, ◌<◌, true, false, List, [], ◌∷◌, length, map, get_or, sym, refl, ap, ◌∙◌, subst, ⊎_elim, arith}
use Rattle.std.proofs.lemmas.Bool.{both_ways, cases_Bool}
use Rattle.std.proofs.lemmas.Grind.{get_or_default_zero}
use Rattle.bits.specs.Bit.{has, members}
use Rattle.bits.proofs.Listed.{members-at, members-has}
use Rattle.model.specs.Reading.{among}
use Rattle.model.specs.Values.{Record}
use Rattle.model.specs.Drafts.{does_name}
use Rattle.kinds.specs.Listed.{at-among, among-at}

pub listed-member : (w i : ℕ) → among i (members w) ≡ true → (has w i ≡ true) × (i < 64)
listed-member w i h =
    let p = among-at (members w) i h in
    let m = members-at w p.0 p.1 in
    (ap (has w) (sym p.2) ∙ m.0, subst (λ (j : ℕ). j < 64) p.2 m.1)

pub member-listed : (w i : ℕ) → i < 64 → has w i ≡ true → among i (members w) ≡ true
member-listed w i l h = let p = members-has w i l h in ap (λ (j : ℕ). among j (members w)) (sym p.2) ∙ at-among (members w) p.0 p.1

pub not-listed : (w i : ℕ) → i < 64 → among i (members w) ≡ false → has w i ≡ false
not-listed w i l h = ⊎_elim (λ t. absurd (both_ways (among i (members w)) h (member-listed w i l t))) (λ f. f) (cases_Bool (has w i))

pub map-same : (xs : List ℕ) → map (λ (x : ℕ). x) xs ≡ xs
map-same [] = refl
map-same (x ∷ xs) = ap (λ (ys : List ℕ). x ∷ ys) (map-same xs)

-- what is yielded of the members is below 64
pub item-below : (w k i : ℕ) → (k < length (members w)) × (i ≡ get_or (members w) k i) → (i < 64) × (among i (members w) ≡ true)
item-below w k i h =
    let e : i ≡ get_or (members w) k 0 = h.1 ∙ get_or_default_zero (members w) k i h.0 in
    (subst (λ (j : ℕ). j < 64) (sym e) (members-at w k h.0).1, ap (λ (j : ℕ). among j (members w)) e ∙ at-among (members w) k h.0)

-- only a record that is there names a variable
pub does_name-below : (rs : List Record) (i x : ℕ) → does_name rs i x ≡ true → i < length rs
does_name-below [] i x h = absurd (both_ways false refl h)
does_name-below (q ∷ rs) zero x h = omega arith
does_name-below (q ∷ rs) (suc i) x h = let l = does_name-below rs i x h in omega arith
