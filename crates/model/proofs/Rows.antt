-- Rows of faults: a record is read exactly when it breaks none.
use Rattle.std.proofs.Common.{◌≡◌, ℕ, ◌≤◌, Bool, true, false, cond, eqb, ltb, List, [], ◌∷◌, length, Some, None, Option, sym, refl, ap, ◌∙◌, arith}
use Rattle.std.proofs.lemmas.Bool.{ltb-false, le-ltb, eqb-true, cond-false}
use Rattle.std.specs.List.{AllByRecursion}
use Rattle.model.specs.declared.form.RecordKind.{RecordKind}
use Rattle.model.specs.declared.form.RecordKind.TheVariants.{Windows, AtMost, Different}
use Rattle.model.specs.Kinds.{kind_of}
use Rattle.model.specs.Values.{Value}
use Rattle.model.specs.Reading.{word, rows, first_broken, extended, broken, more, by_rows, by_kind, step}

abbrev pub Unbroken : List (Bool × ℕ) → Type 0
Unbroken = AllByRecursion (λ r. r.0 ≡ false)

pub none_broken : (rs : List (Bool × ℕ)) → Unbroken rs → first_broken rs ≡ None
none_broken [] u = refl
none_broken (r ∷ rs) u = cond-false r.0 (Some r.1) (first_broken rs) u.0 ∙ none_broken rs u.1

never : (n : ℕ) → ◌≡◌ {A = Option ℕ} (Some n) None → ⊥
never n e = let z : ◌≡◌ {A = ℕ} 0 1 = cc in omega arith

pub unbroken : (rs : List (Bool × ℕ)) → first_broken rs ≡ None → Unbroken rs
unbroken [] e = tt
unbroken (r ∷ rs) e = go (unbroken rs) r.0 refl e
  where
    go : (first_broken rs ≡ None → Unbroken rs) → (b : Bool) → r.0 ≡ b → cond b (Some r.1) (first_broken rs) ≡ None → Unbroken (r ∷ rs)
    go rest true q h = absurd (never r.1 h)
    go rest false q h = (q, rest h)

-- the published number of each kind
abbrev pub number_of : RecordKind → ℕ
number_of Windows = 1
number_of AtMost = 2
number_of Different = 3

pub kind-number : (n : ℕ) (k : RecordKind) → kind_of n ≡ Some k → n ≡ number_of k
kind-number n k e = one (eqb n 1) (eqb n 2) (eqb n 3) (eqb-true n 1) (eqb-true n 2) (eqb-true n 3) e
  where
    one : (a b c : Bool) → (a ≡ true → n ≡ 1) → (b ≡ true → n ≡ 2) → (c ≡ true → n ≡ 3) → cond a (Some Windows) (cond b (Some AtMost) (cond c (Some Different) None)) ≡ Some k → n ≡ number_of k
    one true b c p q r h = p refl ∙ ap number_of (let s : Windows ≡ k = cc in s)
    one false true c p q r h = q refl ∙ ap number_of (let s : AtMost ≡ k = cc in s)
    one false false true p q r h = r refl ∙ ap number_of (let s : Different ≡ k = cc in s)
    one false false false p q r h = absurd (let z : ◌≡◌ {A = ℕ} 0 1 = cc in omega arith)

-- what it takes for a record to be read
pub record Read (first : Bool) (m : Value) (left : List ℕ) (next : Value) : Type 0 where
  pub kind : RecordKind
  pub long : 4 ≤ length left
  pub is : word left 2 ≡ number_of kind
  pub passes : Unbroken (rows first kind m left)
  pub gives : next ≡ extended kind m left

pub step-read : (first : Bool) (m : Value) (left : List ℕ) (next : Value) → step first m left ≡ more next → Read first m left next
step-read first m left next e = short (ltb (length left) 4) refl
  where
    differ : (n : ℕ) → broken n ≡ more next → ⊥
    differ n q = let z : ◌≡◌ {A = ℕ} 0 1 = cc in omega arith

    checked : (k : RecordKind) → 4 ≤ length left → kind_of (word left 2) ≡ Some k → (o : Option ℕ) → first_broken (rows first k m left) ≡ o → by_rows k m left o ≡ more next → Read first m left next
    checked k l q (Some n) p h = absurd (differ n h)
    checked k l q None p h = record { kind = k; long = l; is = kind-number (word left 2) k q; passes = unbroken (rows first k m left) p; gives = (let s : next ≡ extended k m left = cc in s) }

    known : 4 ≤ length left → (o : Option RecordKind) → kind_of (word left 2) ≡ o → by_kind first m left o ≡ more next → Read first m left next
    known l None q h = absurd (differ 2 h)
    known l (Some k) q h = checked k l q (first_broken (rows first k m left)) refl h

    short : (b : Bool) → ltb (length left) 4 ≡ b → Read first m left next
    short true q = absurd (differ 1 (sym (ap (λ (b : Bool). cond b (broken 1) (by_kind first m left (kind_of (word left 2)))) q) ∙ e))
    short false q = known (ltb-false (length left) 4 q) (kind_of (word left 2)) refl (sym (ap (λ (b : Bool). cond b (broken 1) (by_kind first m left (kind_of (word left 2)))) q) ∙ e)

pub read_step : (first : Bool) (m : Value) (left : List ℕ) (k : RecordKind) → 4 ≤ length left → kind_of (word left 2) ≡ Some k → Unbroken (rows first k m left) → step first m left ≡ more (extended k m left)
read_step first m left k l q u =
    cond-false (ltb (length left) 4) (broken 1) (by_kind first m left (kind_of (word left 2))) (le-ltb (length left) 4 l)
    ∙ ap (by_kind first m left) q
    ∙ ap (by_rows k m left) (none_broken (rows first k m left) u)
