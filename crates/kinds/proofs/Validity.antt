-- The records of a valid model name variables that there are, and keep the laws of their kinds. Assumes nothing.
use Rattle.std.proofs.Common.{◌≡◌, ℕ, zero, suc, ◌<◌, ◌≤◌, Bool, true, false, not, ◌&&◌, eqb, ltb, leb, List, [], ◌∷◌, length, Some, None, Option, sym, refl, ap, subst, ap₂, ⊎_elim, arith}
use Rattle.std.proofs.lemmas.Bool.{and_parts, both_ways, or_cases, eqb-true, ltb-true, leb-true}
use Rattle.tree.specs.Tables.{join, single}
use Rattle.tree.specs.Domains.{every}
use Rattle.tree.specs.Filter.{Lawful}
use Rattle.tree.proofs.Domains.{every-from, every-to}
use Rattle.model.specs.Values.{Value, Record, at_most, different, names, fewest}
use Rattle.model.specs.Reading.{among, is_named_once, does_record_fit, do_records_fit, do_windows_fit, is_valid}
use Rattle.model.specs.Values.{entries}
use Rattle.model.specs.Drafts.{does_name}
use Rattle.std.specs.List.{slice_get}
use Rattle.kinds.specs.Demands.{Demands, demanded}
use Rattle.kinds.specs.Laws.{Named, KeepsLaws, LawfulKinds}
use Rattle.kinds.specs.Problems.{Asks, Laws, asks, together}
use Rattle.kinds.specs.Theorems.{ProblemIsLawful}

pub once-below : (n : ℕ) (xs : List ℕ) → is_named_once n xs ≡ true → (x : ℕ) → among x xs ≡ true → x < n
once-below n [] h x e = absurd (both_ways false refl e)
once-below n (y ∷ ys) h x e =
    let p = and_parts (ltb y n && not (among y ys)) (is_named_once n ys) h in
    let q = and_parts (ltb y n) (not (among y ys)) p.0 in
    ⊎_elim (λ k. subst (λ (z : ℕ). z < n) (sym (eqb-true x y k)) (ltb-true y n q.0)) (λ k. once-below n ys p.1 x k) (or_cases (eqb x y) (among x ys) e)

some-entry : (q : Record) → fewest q ≤ length (names q) → 1 ≤ length (names q)
some-entry (at_most b ts) h = h
some-entry (different xs) h = omega arith

pub record_named : (n : ℕ) (q : Record) → does_record_fit n q ≡ true → Named n q
record_named n q h =
    let p = and_parts (leb (fewest q) (length (names q))) (leb (length (names q)) 64 && is_named_once n (names q)) h in
    let r = and_parts (leb (length (names q)) 64) (is_named_once n (names q)) p.1 in
    record {
      some = some-entry q (leb-true (fewest q) (length (names q)) p.0);
      few = leb-true (length (names q)) 64 r.0;
      below = once-below n (names q) r.1;
    }

all_named : (n : ℕ) (rs : List Record) (i : ℕ) (q : Record) → do_records_fit n rs ≡ true → slice_get rs i ≡ Some q → Named n q
all_named n [] i q h e = absurd (let z : ◌≡◌ {A = ℕ} 0 1 = cc in omega arith)
all_named n (r ∷ rs) zero q h e = let k : r ≡ q = cc in subst (Named n) k (record_named n r (and_parts (does_record_fit n r) (do_records_fit n rs) h).0)
all_named n (r ∷ rs) (suc i) q h e = all_named n rs i q (and_parts (does_record_fit n r) (do_records_fit n rs) h).1 e

-- the parts of the test
module _ (m : Value) (h : is_valid m ≡ true) where
  parts_1 : (leb (length m.windows) 64 && (do_windows_fit m.windows && (leb (length m.records) 64 && (leb (entries m.records) 1024 && do_records_fit (length m.windows) m.records)))) ≡ true
  parts_1 = (and_parts (leb 1 (length m.windows)) _ h).1

  parts_2 : (do_windows_fit m.windows && (leb (length m.records) 64 && (leb (entries m.records) 1024 && do_records_fit (length m.windows) m.records))) ≡ true
  parts_2 = (and_parts (leb (length m.windows) 64) _ parts_1).1

  parts_3 : (leb (length m.records) 64 && (leb (entries m.records) 1024 && do_records_fit (length m.windows) m.records)) ≡ true
  parts_3 = (and_parts (do_windows_fit m.windows) _ parts_2).1

  pub few_variables : length m.windows ≤ 64
  few_variables = leb-true (length m.windows) 64 (and_parts (leb (length m.windows) 64) _ parts_1).0

  pub few_records : length m.records ≤ 64
  few_records = leb-true (length m.records) 64 (and_parts (leb (length m.records) 64) _ parts_3).0

  pub named : (i : ℕ) (q : Record) → slice_get m.records i ≡ Some q → Named (length m.windows) q
  named i q e = all_named (length m.windows) m.records i q (and_parts (leb (entries m.records) 1024) _ (and_parts (leb (length m.records) 64) _ parts_3).1).1 e

-- there is a record of each number below their count, and none above
pub nth_below : (rs : List Record) (i : ℕ) → i < length rs → (q : Record) × (slice_get rs i ≡ Some q)
nth_below [] i l = absurd (omega arith)
nth_below (r ∷ rs) zero l = (r, refl)
nth_below (r ∷ rs) (suc i) l = nth_below rs i (omega arith)

pub nth_names : (rs : List Record) (i x : ℕ) (q : Record) → slice_get rs i ≡ Some q → does_name rs i x ≡ among x (names q)
nth_names [] i x q e = absurd (let z : ◌≡◌ {A = ℕ} 0 1 = cc in omega arith)
nth_names (r ∷ rs) zero x q e = let k : r ≡ q = cc in ap (λ (z : Record). among x (names z)) k
nth_names (r ∷ rs) (suc i) x q e = nth_names rs i x q e

demand_names : (D : Demands) (w : ℕ) (rs : List Record) → LawfulKinds D → (i x : ℕ) → (demanded D w (slice_get rs i)).names x ≡ true → does_name rs i x ≡ true
demand_names D w [] laws i x h = absurd (both_ways false refl h)
demand_names D w (r ∷ rs) laws zero x h = laws.names w r x h
demand_names D w (r ∷ rs) laws (suc i) x h = demand_names D w rs laws i x h

pub model_laws : (D : Demands) (m : Value) (w : ℕ) → LawfulKinds D → is_valid m ≡ true → Laws (asks D m w)
model_laws D m w laws v = record {
  few = few_records m v;
  small = few_variables m v;
  keeps = λ i l.
      let p = nth_below m.records i l in
      subst (λ (o : Option Record). KeepsLaws (length m.windows) w (demanded D w o)) (sym p.1) (laws.keeps (length m.windows) w p.0 (named m v i p.0 p.1));
  names = demand_names D w m.records laws;
}

every-same : (n : ℕ) (f g : ℕ → Bool) → ((i : ℕ) → i < n → f i ≡ g i) → every n f ≡ every n g
every-same zero f g h = refl
every-same (suc n) f g h = ap₂ ◌&&◌ (h n (omega arith)) (every-same n f g (λ i l. h i (omega arith)))

pub together-lawful : (A : Asks) → Laws A → Lawful (together A)
together-lawful A laws = record {
  joins = λ S T bs bt fs ft es et. every-from A.count (λ i. (A.demand i).stable (join S T))
      (λ i h. (laws.keeps i h).joins S T bs bt fs ft (every-to A.count (λ j. (A.demand j).stable S) es i h) (every-to A.count (λ j. (A.demand j).stable T) et i h));
  singles = λ a b f. every-same A.count (λ i. (A.demand i).stable (single a)) (λ i. (A.demand i).meets a) (λ i h. (laws.keeps i h).singles a b f);
}

pub problem-lawful : ProblemIsLawful
problem-lawful D m w laws v = together-lawful (asks D m w) (model_laws D m w laws v)

-- what a record's demand names is one of the model's variables
pub demanded-below : (D : Demands) (m : Value) (w i x : ℕ) → LawfulKinds D → is_valid m ≡ true → (demanded D w (slice_get m.records i)).names x ≡ true → x < length m.windows
demanded-below D m w i x laws v h = by (slice_get m.records i) refl h
  where
    by : (o : Option Record) → slice_get m.records i ≡ o → (demanded D w o).names x ≡ true → x < length m.windows
    by None e k = absurd (both_ways false refl k)
    by (Some q) e k = (named m v i q e).below x (laws.names w q x k)
