-- One more record in a draft.
use Rattle.std.proofs.Common.{◌≡◌, ℕ, zero, suc, ◌+◌, ◌-◌, ◌<◌, ◌≤◌, Bool, true, false, ◌&&◌, ◌||◌, eqb, List, [], ◌∷◌, ◌++◌, map, length, get_or, take, drop, ℤ, replicate, sym, refl, ap, ◌∙◌, ap₂, ⊎_elim, arith}
use Rattle.std.proofs.lemmas.List.{length-append, length-map, take-take, take_all, take_at, drop-take, drop_at, map_push, get_or-replicate}
use Rattle.std.proofs.lemmas.Bool.{and_parts, and_from, leb-true, le-leb, eq-eqb, ne_eqb, cases_eq}
use Rattle.std.proofs.ByRecursion.{All-weaker}
use Rattle.std.specs.List.{AllByRecursion}
use Rattle.bits.specs.Bit.{has}
use Rattle.bits.specs.declared.Set.{Set}
use Rattle.bits.proofs.Digits.{has-zero}
use Rattle.model.specs.declared.draft.Draft.{Draft}
use Rattle.model.specs.declared.draft.Stored.{Stored}
use Rattle.model.specs.declared.draft.Stored.TheVariants.{AtMost, Different}
use Rattle.model.specs.declared.values.Window.{Window}
use Rattle.model.specs.declared.values.Term.{Term}
use Rattle.model.specs.Values.{Record, at_most, different, names, entries}
use Rattle.model.specs.Reading.{term_at, variable_at, among, is_named_once}
use Rattle.model.specs.Drafts.{stored_record, stored_records, does_name, is_placed, are_placed, none, Noted}
use Rattle.model.specs.declared.entries.Entries.{Entries}
use Rattle.model.specs.Drafted.{drafted}
use Rattle.model.specs.Scans.{Ready, read_by, named_in}
use Rattle.model.proofs.EntryBytes.{length-entries, terms-names, named-below}
use Rattle.model.proofs.Layouts.{all_entries_more}

-- what lies in front of a place is kept
part-kept : {A : Type 0} (xs ys : List A) (n from k : ℕ) → take n xs ≡ take n ys → from + k ≤ n → take k (drop from xs) ≡ take k (drop from ys)
part-kept {A} xs ys n from k e h = front xs ∙ ap (λ (zs : List A). take k (drop from zs)) e ∙ sym (front ys)
  where
    front : (zs : List A) → take k (drop from zs) ≡ take k (drop from (take n zs))
    front zs =
        let m : from + (n - from) ≡ n = omega arith in
        sym (take-take k (n - from) (drop from zs) (omega arith)) ∙ ap (take k) (sym (drop-take from (n - from) zs) ∙ ap (λ (i : ℕ). drop from (take i zs)) m)

module _ (ts us : List Term) (xs ys : List ℕ) (summed listed : ℕ) (e : take summed ts ≡ take summed us) (f : take listed xs ≡ take listed ys) where
  record_kept : (s : Stored) → is_placed summed listed s ≡ true → stored_record ts xs s ≡ stored_record us ys s
  record_kept (AtMost bound from count) p = ap (at_most bound) (part-kept ts us summed from count e (leb-true (from + count) summed p))
  record_kept (Different from count) p = ap different (part-kept xs ys listed from count f (leb-true (from + count) listed p))

  records-kept : (ss : List Stored) → are_placed summed listed ss ≡ true → map (stored_record ts xs) ss ≡ map (stored_record us ys) ss
  records-kept [] p = refl
  records-kept (s ∷ ss) p = let q = and_parts (is_placed summed listed s) (are_placed summed listed ss) p in ap₂ (λ (r : Record) (rs : List Record). r ∷ rs) (record_kept s q.0) (records-kept ss q.1)

module _ (summed listed more further : ℕ) (a : summed ≤ more) (b : listed ≤ further) where
  placed_still : (s : Stored) → is_placed summed listed s ≡ true → is_placed more further s ≡ true
  placed_still (AtMost bound from count) p = le-leb (from + count) more (omega (arith, leb-true (from + count) summed p))
  placed_still (Different from count) p = le-leb (from + count) further (omega (arith, leb-true (from + count) listed p))

  placed_push : (ss : List Stored) (s : Stored) → are_placed summed listed ss ≡ true → is_placed more further s ≡ true → are_placed more further (ss ++ (s ∷ [])) ≡ true
  placed_push [] s p q = and_from _ _ q refl
  placed_push (r ∷ ss) s p q = let u = and_parts (is_placed summed listed r) (are_placed summed listed ss) p in and_from _ _ (placed_still r u.0) (placed_push ss s u.1 q)

eqb_suc : (a b : ℕ) → eqb (suc a) (suc b) ≡ eqb a b
eqb_suc a b = ⊎_elim (λ e. eq-eqb (suc a) (suc b) (ap suc e) ∙ sym (eq-eqb a b e)) (λ n. ne_eqb (suc a) (suc b) (λ e. n (omega arith)) ∙ sym (ne_eqb a b n)) (cases_eq a b)

names_push : (qs : List Record) (r : Record) (k x : ℕ) → does_name (qs ++ (r ∷ [])) k x ≡ (does_name qs k x || (eqb k (length qs) && among x (names r)))
names_push [] r zero x = refl
names_push [] r (suc k) x = ap (λ (b : Bool). b && among x (names r)) (sym (ne_eqb (suc k) 0 (λ e. omega (arith, e))))
names_push (q ∷ qs) r zero x = right (among x (names q)) (eqb 0 (suc (length qs))) (among x (names r)) (ne_eqb 0 (suc (length qs)) (λ e. omega (arith, e)))
  where
    right : (a b c : Bool) → b ≡ false → a ≡ (a || (b && c))
    right true b c e = refl
    right false b c e = ap (λ (d : Bool). d && c) (sym e)
names_push (q ∷ qs) r (suc k) x = names_push qs r k x ∙ ap (λ (b : Bool). does_name qs k x || (b && among x (names r))) (sym (eqb_suc k (length qs)))

-- what a draft has to show
abbrev pub Held : List Window → List Stored → List Term → List ℕ → List Set → Type 0
Held ws ss ts xs sets = record { long : length sets ≡ 64; variables : length ws ≤ 64; few : length ss ≤ 64; entries : entries (stored_records ts xs ss) ≡ length ts + length xs; most : length ts + length xs ≤ 1024; placed : are_placed (length ts) (length xs) ss ≡ true; noted : Noted sets (stored_records ts xs ss) }

-- the places of d with the record r more, whose entries lie where s says
pub record Adds (d : Draft) (r : Record) (s : Stored) (ss : List Stored) (ts : List Term) (xs : List ℕ) (sets : List Set) : Type 0 where
  pub room : length d.stored.items < 64
  pub stored : ss ≡ d.stored.items ++ (s ∷ [])
  pub terms : take (length d.terms.items) ts ≡ d.terms.items
  pub distinct : take (length d.distinct.items) xs ≡ d.distinct.items
  pub long : length sets ≡ 64
  pub summed : length d.terms.items ≤ length ts
  pub listed : length d.distinct.items ≤ length xs
  pub total : length ts + length xs ≡ length d.terms.items + length d.distinct.items + length (names r)
  pub most : length ts + length xs ≤ 1024
  pub here : stored_record ts xs s ≡ r
  pub placed : is_placed (length ts) (length xs) s ≡ true
  pub noted : (x k : ℕ) → x < 64 → has (get_or sets x none).word k ≡ (has (get_or d.naming x none).word k || (eqb k (length d.stored.items) && among x (names r)))

module _ (d : Draft) (r : Record) (s : Stored) (ss : List Stored) (ts : List Term) (xs : List ℕ) (sets : List Set) (a : Adds d r s ss ts xs sets) where
  pub added : stored_records ts xs ss ≡ stored_records d.terms.items d.distinct.items d.stored.items ++ (r ∷ [])
  added =
      let e : take (length d.terms.items) ts ≡ take (length d.terms.items) d.terms.items = a.terms ∙ sym (take_all (length d.terms.items) d.terms.items (omega arith)) in
      let f : take (length d.distinct.items) xs ≡ take (length d.distinct.items) d.distinct.items = a.distinct ∙ sym (take_all (length d.distinct.items) d.distinct.items (omega arith)) in
      ap (map (stored_record ts xs)) a.stored
      ∙ map_push (stored_record ts xs) d.stored.items s
      ∙ ap₂ (λ (rs : List Record) (q : Record). rs ++ (q ∷ [])) (records-kept ts d.terms.items xs d.distinct.items (length d.terms.items) (length d.distinct.items) e f d.stored.items d.placed) a.here

  pub added_held : Held d.windows.items ss ts xs sets
  added_held =
      let old = stored_records d.terms.items d.distinct.items d.stored.items in
      record {
        long = a.long;
        variables = d.variables;
        few = omega (arith, ap length a.stored, length-append d.stored.items (s ∷ []), a.room);
        entries = ap entries added ∙ all_entries_more old r ∙ ap (λ (n : ℕ). n + length (names r)) d.entries ∙ sym a.total;
        most = a.most;
        placed = ap (are_placed (length ts) (length xs)) a.stored ∙ placed_push (length d.terms.items) (length d.distinct.items) (length ts) (length xs) a.summed a.listed d.stored.items s d.placed a.placed;
        noted = λ x k l. a.noted x k l ∙ ap₂ (λ (b : Bool) (n : ℕ). b || (eqb k n && among x (names r))) (d.noted x k l) (sym (length-map d.stored.items (stored_record d.terms.items d.distinct.items))) ∙ sym (ap (λ (rs : List Record). does_name rs k x) added ∙ names_push old r k x);
      }

-- what is put behind a list lies there
module _ {A : Type 0} (old new all : List A) (n from : ℕ) (e : all ≡ old ++ new) (k : length new ≡ n) (f : from ≡ length old) where
  pub put-front : take (length old) all ≡ old
  put-front = ap (take (length old)) e ∙ take_at old new (length old) refl

  pub put-part : take n (drop from all) ≡ new
  put-part = ap₂ (λ (i : ℕ) (zs : List A). take n (drop i zs)) f e ∙ ap (take n) (drop_at old new (length old) refl) ∙ take_all n new (omega (arith, k))

  pub put-length : length all ≡ length old + n
  put-length = ap length e ∙ length-append old new ∙ ap (λ (i : ℕ). length old + i) k

-- the entries that were read
module _ (d : Draft) (e : Entries) (y : Ready d e) (number from : ℕ) (n : number ≡ length d.stored.items) (ss : List Stored) (sets : List Set) (l : length sets ≡ 64)
    (h : (x k : ℕ) → x < length d.naming → has (get_or sets x none).word k ≡ (has (get_or d.naming x none).word k || (eqb k number && among x (named_in e)))) where
  pub sum_adds : (b bound : ℤ) (ts : List Term) → b ≡ bound → from ≡ length d.terms.items → ss ≡ d.stored.items ++ (AtMost b from e.count ∷ []) → ts ≡ d.terms.items ++ read_by term_at e → Adds d (at_most bound (read_by term_at e)) (AtMost b from e.count) ss ts d.distinct.items sets
  sum_adds b bound ts q f s t =
      let new = read_by term_at e in
      let k = length-entries term_at e.each e.count e.bytes.now in
      let named : length (map (λ (u : Term). u.variable) new) ≡ e.count = length-map new (λ (u : Term). u.variable) ∙ k in
      let long = put-length d.terms.items new ts e.count from t k f in
      record {
        room = y.room;
        stored = s;
        terms = put-front d.terms.items new ts e.count from t k f;
        distinct = take_all _ d.distinct.items (omega arith);
        long = l;
        summed = omega (arith, long);
        listed = omega arith;
        total = omega (arith, long, named);
        most = omega (arith, long, y.most);
        here = ap₂ at_most q (put-part d.terms.items new ts e.count from t k f);
        placed = le-leb (from + e.count) (length ts) (omega (arith, long, f));
        noted = λ x i m. h x i (omega (arith, m, d.long)) ∙ ap₂ (λ (j : ℕ) (xs : List ℕ). has (get_or d.naming x none).word i || (eqb i j && among x xs)) n (sym (terms-names e.each e.count e.bytes.now));
      }

  pub list_adds : (xs : List ℕ) → from ≡ length d.distinct.items → ss ≡ d.stored.items ++ (Different from e.count ∷ []) → xs ≡ d.distinct.items ++ named_in e → Adds d (different (named_in e)) (Different from e.count) ss d.terms.items xs sets
  list_adds xs f s t =
      let new = named_in e in
      let k = length-entries variable_at e.each e.count e.bytes.now in
      let long = put-length d.distinct.items new xs e.count from t k f in
      record {
        room = y.room;
        stored = s;
        terms = take_all _ d.terms.items (omega arith);
        distinct = put-front d.distinct.items new xs e.count from t k f;
        long = l;
        summed = omega arith;
        listed = omega (arith, long);
        total = omega (arith, long, k);
        most = omega (arith, long, y.most);
        here = ap different (put-part d.distinct.items new xs e.count from t k f);
        placed = le-leb (from + e.count) (length xs) (omega (arith, long, f));
        noted = λ x i m. h x i (omega (arith, m, d.long)) ∙ ap (λ (j : ℕ). has (get_or d.naming x none).word i || (eqb i j && among x new)) n;
      }

-- the variables of a record have their sets
pub variables-below : (d : Draft) (xs : List ℕ) → is_named_once (length d.windows.items) xs ≡ true → AllByRecursion (λ x. x < length d.naming) xs
variables-below d xs e = All-weaker (λ x. x < length d.windows.items) (λ x. x < length d.naming) (λ x l. omega (arith, d.variables, d.long)) xs (named-below (length d.windows.items) xs e).0

-- a draft with nothing in it
pub none_held : (ws : List Window) (ss : List Stored) (ts : List Term) (xs : List ℕ) → ws ≡ [] → ss ≡ [] → ts ≡ [] → xs ≡ [] → Held ws ss ts xs (replicate 64 none)
none_held ws ss ts xs p q e f =
    let r : stored_records ts xs ss ≡ [] = ap (map (stored_record ts xs)) q in
    let t : length ts ≡ 0 = ap length e in
    let u : length xs ≡ 0 = ap length f in
    let z : 0 ≡ length ts + length xs = omega arith in
    record {
      long = refl;
      variables = omega (arith, ap length p);
      few = omega (arith, ap length q);
      entries = ap entries r ∙ z;
      most = omega arith;
      placed = ap (are_placed (length ts) (length xs)) q;
      noted = λ x k l. ap (λ (s : Set). has s.word k) (get_or-replicate 64 x none none l) ∙ has-zero k ∙ sym (ap (λ (rs : List Record). does_name rs k x) r);
    }

pub drafted-records : (d : Draft) → length (drafted d).records ≡ length d.stored.items
drafted-records d = length-map d.stored.items (stored_record d.terms.items d.distinct.items)
