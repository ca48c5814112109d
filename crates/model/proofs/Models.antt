-- What a model's place holds: its test, its records by number, and the sets of records.
use Rattle.std.proofs.Common.{◌≡◌, ℕ, zero, suc, ◌<◌, ◌≤◌, true, false, ◌&&◌, ltb, leb, List, [], ◌∷◌, length, get_or, Some, sym, refl, ap, ◌∙◌, arith}
use Rattle.std.specs.List.{AllByRecursion, slice_get}
use Rattle.std.proofs.lemmas.List.{length-map, get_or-map}
use Rattle.std.proofs.lemmas.Option.{slice_get-get_or}
use Rattle.std.proofs.lemmas.Bool.{and_parts, and_from, le-leb, ltb-true, or_from, ne_eqb}
use Rattle.model.specs.declared.draft.Stored.{Stored}
use Rattle.model.specs.declared.draft.Draft.{Draft}
use Rattle.model.specs.Values.{Value, Record, names, fewest, entries, RecordValid, Valid}
use Rattle.model.specs.Reading.{among, is_named_once, do_windows_fit, does_record_fit, do_records_fit, is_valid}
use Rattle.model.specs.Drafts.{stored_record, does_name, is_placed, are_placed}
use Rattle.model.specs.Drafted.{drafted}
use Rattle.model.proofs.EntryBytes.{windows_pass, named_pass}

records_pass : (n : ℕ) (rs : List Record) → AllByRecursion (RecordValid n) rs → do_records_fit n rs ≡ true
records_pass n [] v = refl
records_pass n (r ∷ rs) v = and_from _ _ (and_from _ _ (le-leb _ _ v.0.enough) (and_from _ _ (le-leb _ _ v.0.few) (named_pass n (names r) v.0.below v.0.apart))) (records_pass n rs v.1)

pub valid-passes : (m : Value) → Valid m → is_valid m ≡ true
valid-passes m v =
    and_from _ _ (le-leb _ _ v.some_variable) (and_from _ _ (le-leb _ _ v.few_variables) (and_from _ _ (windows_pass m.windows v.windows)
    (and_from _ _ (le-leb _ _ v.few_records) (and_from _ _ (le-leb _ _ v.few_entries) (records_pass (length m.windows) m.records v.records)))))

-- no record names a variable that is not there
not_named : (n x : ℕ) (xs : List ℕ) → n ≤ x → is_named_once n xs ≡ true → among x xs ≡ false
not_named n x [] h e = refl
not_named n x (y ∷ ys) h e =
    let p = and_parts (ltb y n && mathlib.Core.Bool.not (among y ys)) (is_named_once n ys) e in
    let q = and_parts (ltb y n) (mathlib.Core.Bool.not (among y ys)) p.0 in
    let l = ltb-true y n q.0 in
    or_from _ _ (ne_eqb x y (λ z. omega (arith, z, l))) (not_named n x ys h p.1)

names-none : (n x : ℕ) (rs : List Record) (i : ℕ) → n ≤ x → do_records_fit n rs ≡ true → does_name rs i x ≡ false
names-none n x [] i h e = refl
names-none n x (r ∷ rs) zero h e =
    let p = and_parts (does_record_fit n r) (do_records_fit n rs) e in
    let q = and_parts (leb (fewest r) (length (names r))) (leb (length (names r)) 64 && is_named_once n (names r)) p.0 in
    not_named n x (names r) h (and_parts (leb (length (names r)) 64) (is_named_once n (names r)) q.1).1
names-none n x (r ∷ rs) (suc i) h e = names-none n x rs i h (and_parts (does_record_fit n r) (do_records_fit n rs) e).1

-- the last part of the test
pub records_of_valid : (m : Value) → is_valid m ≡ true → do_records_fit (length m.windows) m.records ≡ true
records_of_valid m e =
    let a = and_parts (leb 1 (length m.windows)) _ e in
    let b = and_parts (leb (length m.windows) 64) _ a.1 in
    let c = and_parts (do_windows_fit m.windows) _ b.1 in
    let d = and_parts (leb (length m.records) 64) _ c.1 in
    (and_parts (leb (entries m.records) 1024) _ d.1).1

pub names-past : (m : Value) (x i : ℕ) → is_valid m ≡ true → length m.windows ≤ x → does_name m.records i x ≡ false
names-past m x i e h = names-none (length m.windows) x m.records i h (records_of_valid m e)

-- the record number i, by where its entries lie
placed_at : (summed listed : ℕ) (ss : List Stored) (i : ℕ) (s : Stored) → i < length ss → are_placed summed listed ss ≡ true → is_placed summed listed (get_or ss i s) ≡ true
placed_at summed listed [] i s l e = absurd (omega arith)
placed_at summed listed (r ∷ ss) zero s l e = (and_parts (is_placed summed listed r) (are_placed summed listed ss) e).0
placed_at summed listed (r ∷ ss) (suc i) s l e = placed_at summed listed ss i s (omega arith) (and_parts (is_placed summed listed r) (are_placed summed listed ss) e).1

module _ (d : Draft) (i : ℕ) (l : i < length d.stored.items) (xs : List Stored) (x : xs ≡ d.stored.items) (s z : Stored) (e : get_or xs i z ≡ s) where
  is : get_or d.stored.items i z ≡ s
  is = ap (λ (ys : List Stored). get_or ys i z) (sym x) ∙ e

  pub stored_at : slice_get (drafted d).records i ≡ Some (stored_record d.terms.items d.distinct.items s)
  stored_at =
      let f = stored_record d.terms.items d.distinct.items in
      slice_get-get_or (drafted d).records i (f z) (omega (arith, length-map d.stored.items f))
      ∙ ap Some (get_or-map f d.stored.items i z (f z) l ∙ ap f is)

  pub stored_placed : is_placed (length d.terms.items) (length d.distinct.items) s ≡ true
  stored_placed = ap (is_placed (length d.terms.items) (length d.distinct.items)) (sym is) ∙ placed_at (length d.terms.items) (length d.distinct.items) d.stored.items i z l d.placed
