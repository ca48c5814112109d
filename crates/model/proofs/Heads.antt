-- The first rows of a record: each is reached where those before it hold.
use Rattle.std.proofs.Common.{◌≡◌, ℕ, ◌+◌, ◌*◌, ◌<◌, ◌≤◌, Bool, true, false, not, ◌&&◌, eqb, ltb, leb, List, length, get_or, drop, Some, Option, ap, ◌∙◌, ap₂, arith}
use Rattle.std.proofs.lemmas.List.{get_or-drop}
use Rattle.std.proofs.lemmas.Bool.{cond-true, cond-false, lt-ltb, le-ltb, le-leb, lt-leb, ne_eqb, and_left, and_right, not_from_false}
use Rattle.model.specs.declared.form.RecordKind.{RecordKind}
use Rattle.model.specs.Kinds.{kind_of, shape}
use Rattle.model.specs.Values.{Value}
use Rattle.model.specs.Reading.{word, long, count, body_length, extent, is_misplaced, is_misfit, rows, first_broken, broken, by_rows, by_kind, step}

-- the number further on
pub word-later : (bs : List ℕ) (at k : ℕ) → word (drop at bs) k ≡ word bs (at + k)
word-later bs at k =
    let e : at + (k + 1) ≡ at + k + 1 = omega arith in
    ap₂ (λ (x y : ℕ). x + 256 * y) (get_or-drop at bs k 0) (get_or-drop at bs (k + 1) 0 ∙ ap (λ (i : ℕ). get_or bs i 0) e)

pub long-later : (bs : List ℕ) (at : ℕ) → long (drop at bs) 0 ≡ long bs at
long-later bs at =
    let e : at + 0 ≡ at = omega arith in
    ap₂ (λ (x y : ℕ). x + 65536 * y) (word-later bs at 0 ∙ ap (word bs) e) (word-later bs at 2)

module _ (first : Bool) (left : List ℕ) (m : Value) where
  pub short_step : length left < 4 → step first m left ≡ broken 1
  short_step h = cond-true (ltb (length left) 4) _ _ (lt-ltb (length left) 4 h)

  pub known_step : (o : Option RecordKind) → 4 ≤ length left → kind_of (word left 2) ≡ o → step first m left ≡ by_kind first m left o
  known_step o h e = cond-false (ltb (length left) 4) _ _ (le-ltb (length left) 4 h) ∙ ap (by_kind first m left) e

  module _ (k : RecordKind) (headed : 4 ≤ length left) (known : kind_of (word left 2) ≡ Some k) where
    row_step : (n : ℕ) → first_broken (rows first k m left) ≡ Some n → step first m left ≡ broken n
    row_step n e = known_step (Some k) headed known ∙ ap (by_rows k m left) e

    pub misplaced_step : is_misplaced first k ≡ true → step first m left ≡ broken 3
    misplaced_step e = row_step 3 (cond-true _ _ _ e)

    pub cut_step : is_misplaced first k ≡ false → length left < extent left → step first m left ≡ broken 1
    cut_step e f = row_step 1 (cond-false _ _ _ e ∙ cond-true _ _ _ (lt-ltb _ _ f))

    pub misfit_step : is_misplaced first k ≡ false → extent left ≤ length left → is_misfit k left ≡ true → step first m left ≡ broken 4
    misfit_step e f g = row_step 4 (cond-false _ _ _ e ∙ cond-false _ _ _ (le-ltb _ _ f) ∙ cond-true _ _ _ g)

-- the count against its limits and the length
module _ (k : RecordKind) (left : List ℕ) where
  pub no_length : body_length left ≡ 0 → 1 ≤ (shape k).before → is_misfit k left ≡ true
  no_length e p = not_from_false _ (and_right (leb (shape k).least (count left)) _ (and_right (leb (count left) 64) _ (ne_eqb (body_length left) ((shape k).before + (shape k).each * count left) (λ q. omega arith))))

  pub too_few : count left < (shape k).least → is_misfit k left ≡ true
  too_few h = not_from_false _ (and_left _ _ (lt-leb _ _ h))

  pub too_many : 64 < count left → is_misfit k left ≡ true
  too_many h = not_from_false _ (and_right _ _ (and_left _ _ (lt-leb _ _ h)))

  pub by_length : (shape k).least ≤ count left → count left ≤ 64 → is_misfit k left ≡ not (eqb (body_length left) ((shape k).before + (shape k).each * count left))
  by_length p q = ap₂ (λ (a b : Bool). not (a && (b && eqb (body_length left) ((shape k).before + (shape k).each * count left)))) (le-leb _ _ p) (le-leb _ _ q)
