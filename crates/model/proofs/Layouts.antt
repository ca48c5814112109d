-- Layout and reading agree: what is accepted is laid out, and what is laid out is accepted.
use Rattle.std.proofs.Common.{◌≡◌, ℕ, zero, suc, ◌+◌, ◌*◌, ◌/◌, ◌%◌, ◌<◌, ◌≤◌, true, false, not, ◌&&◌, ◌||◌, eqb, ltb, leb, List, [], ◌∷◌, ◌++◌, map, length, drop, sym, refl, ap, ◌∙◌, subst, ap₂, arith, w32, to_z, of_z}
use borrow.Author.Gap.{read_sfits}
use Rattle.std.proofs.ByRecursion.{All-push, All-drop}
use Rattle.std.proofs.lemmas.List.{append-nil, append_assoc, length-append, length-map, drop_at, flat_map_more}
use Rattle.std.proofs.lemmas.Int.{to_z-of_z, of_z-to_z}
use Rattle.std.proofs.lemmas.Bool.{and_parts, and_from, or_parts, or_from, not-false, not_from_true, ltb-false, le-ltb, leb-true, leb-false, le-leb, lt-leb, eqb-true, eq-eqb, true≢false}
use Rattle.std.specs.List.{flat_map, AllByRecursion}
use Rattle.model.specs.declared.form.RecordKind.{RecordKind}
use Rattle.model.specs.declared.form.RecordKind.TheVariants.{Windows, AtMost, Different}
use Rattle.model.specs.declared.values.Window.{Window}
use Rattle.model.specs.declared.values.Term.{Term}
use Rattle.model.specs.Values.{Value, Record, at_most, different, names, entries, Distinct, RecordValid, Valid}
use Rattle.model.specs.Kinds.{shape}
use Rattle.model.specs.Layout.{two_bytes, four_bytes, framed, window_bytes, term_bytes, windows_bytes, record_bytes, encode}
use Rattle.model.specs.Reading.{word, long, body_length, count, extent, entry_bytes, window_at, term_at, variable_at, windows_in, terms_in, variables_in, bound_in, do_windows_fit, is_named_once, is_misfit, rows, with_record, extended, Step, broken, more, step, accepted, refused, follow, read_rest, nothing, read_model}
use Rattle.model.specs.Layout.{Bytes}
use Rattle.model.proofs.EntryBytes.{two_read, four_read, four_laid, windows-read, windows_laid, length-window_bytes, terms-read, terms_laid, length-term_bytes, terms-sized, terms-names, listed-read, listed_laid, length-entries, windows-valid, windows_pass, named-below, named_pass}
use Rattle.model.proofs.Rows.{number_of, step-read, read_step, Unbroken}

-- what is laid out is accepted

module _ (kind : ℕ) (body rest : List ℕ) where
  framed_length : word (framed kind body ++ rest) 0 ≡ length body
  framed_length = two_read (length body)

  framed_extent : extent (framed kind body ++ rest) ≡ length (framed kind body)
  framed_extent = omega (arith, two_read (length body))

  framed_whole : extent (framed kind body ++ rest) ≤ length (framed kind body ++ rest)
  framed_whole = omega (arith, two_read (length body), length-append body rest)

  pub framed_rest : drop (extent (framed kind body ++ rest)) (framed kind body ++ rest) ≡ rest
  framed_rest = ap (λ (n : ℕ). drop n (framed kind body ++ rest)) framed_extent ∙ drop_at (framed kind body) rest (length (framed kind body)) refl

fits : (least n len want : ℕ) → least ≤ n → n ≤ 64 → len ≡ want → not (leb least n && (leb n 64 && eqb len want)) ≡ false
fits least n len want p q e = not_from_true _ (and_from _ _ (le-leb least n p) (and_from _ _ (le-leb n 64 q) (eq-eqb len want e)))

windows-step : (ws : List Window) (rest : List ℕ) → 1 ≤ length ws → length ws ≤ 64 → do_windows_fit ws ≡ true → step true nothing (windows_bytes ws ++ rest) ≡ more (record { windows = ws; records = [] })
windows-step ws rest p q f =
    let body = length ws ∷ flat_map window_bytes ws in
    let left = windows_bytes ws ++ rest in
    let r = windows-read ws rest in
    read_step true nothing left Windows (omega arith) refl (
      refl,
      (
        le-ltb (length left) (extent left) (framed_whole 1 body rest),
        (
          fits 1 (length ws) (word left 0) (1 + 2 * length ws) p q (omega (arith, framed_length 1 body rest, length-window_bytes ws)),
          (
            refl,
            (
              not_from_true _ (ap do_windows_fit r ∙ f),
              (refl, tt),
            ),
          ),
        ),
      ),
    )
    ∙ ap (λ (vs : List Window). more (record { windows = vs; records = [] })) r

-- there is room for one more record
pub record Room (m : Value) (r : Record) : Type 0 where
  pub records : length m.records < 64
  pub entries : entries m.records + length (names r) ≤ 1024

roomy : (m : Value) (n : ℕ) → length m.records < 64 → entries m.records + n ≤ 1024 → (leb 64 (length m.records) || ltb 1024 (entries m.records + n)) ≡ false
roomy m n p q = or_from _ _ (lt-leb 64 (length m.records) p) (le-ltb 1024 (entries m.records + n) q)

record_step : (m : Value) (r : Record) (rest : List ℕ) → RecordValid (length m.windows) r → Room m r → step false m (record_bytes r ++ rest) ≡ more (with_record m r)
record_step m (at_most bound ts) rest v room =
    let body = length ts ∷ (four_bytes (of_z w32 bound) ++ flat_map term_bytes ts) in
    let left = record_bytes (at_most bound ts) ++ rest in
    let n : length (map (λ (t : Term). t.variable) ts) ≡ length ts = length-map ts (λ (t : Term). t.variable) in
    let r = terms-read ts rest v.sized.1 in
    let x : variables_in 3 (length ts) (flat_map term_bytes ts ++ rest) ≡ map (λ t. t.variable) ts = sym (terms-names 3 (length ts) (flat_map term_bytes ts ++ rest)) ∙ ap (map (λ t. t.variable)) r in
    let b : bound_in left ≡ bound = ap (to_z w32) (four_read (of_z w32 bound)) ∙ to_z-of_z w32 bound v.sized.0 in
    read_step false m left AtMost (omega arith) refl (
      refl,
      (
        le-ltb (length left) (extent left) (framed_whole 2 body rest),
        (
          fits 1 (length ts) (word left 0) (5 + 3 * length ts) (omega (arith, n, v.enough)) (omega (arith, n, v.few)) (omega (arith, framed_length 2 body rest, length-term_bytes ts)),
          (
            roomy m (length ts) room.records (omega (arith, n, room.entries)),
            (
              refl,
              (not_from_true _ (ap (is_named_once (length m.windows)) x ∙ named_pass (length m.windows) (map (λ t. t.variable) ts) v.below v.apart), tt),
            ),
          ),
        ),
      ),
    )
    ∙ ap₂ (λ c us. more (with_record m (at_most c us))) b r
record_step m (different xs) rest v room =
    let body = length xs ∷ xs in
    let left = record_bytes (different xs) ++ rest in
    let r = listed-read xs rest in
    read_step false m left Different (omega arith) refl (
      refl,
      (
        le-ltb (length left) (extent left) (framed_whole 3 body rest),
        (
          fits 2 (length xs) (word left 0) (1 + 1 * length xs) v.enough v.few (omega (arith, framed_length 3 body rest)),
          (
            roomy m (length xs) room.records room.entries,
            (
              refl,
              (not_from_true _ (ap (is_named_once (length m.windows)) r ∙ named_pass (length m.windows) xs v.below v.apart), tt),
            ),
          ),
        ),
      ),
    )
    ∙ ap (λ (ys : List ℕ). more (with_record m (different ys))) r

record_rest : (r : Record) (rest : List ℕ) → drop (extent (record_bytes r ++ rest)) (record_bytes r ++ rest) ≡ rest
record_rest (at_most bound ts) rest = framed_rest 2 (length ts ∷ (four_bytes (of_z w32 bound) ++ flat_map term_bytes ts)) rest
record_rest (different xs) rest = framed_rest 3 (length xs ∷ xs) rest

record_some : (r : Record) → 1 ≤ length (record_bytes r)
record_some (at_most bound ts) = omega arith
record_some (different xs) = omega arith

pub all_entries_more : (qs : List Record) (r : Record) → entries (qs ++ (r ∷ [])) ≡ entries qs + length (names r)
all_entries_more [] r = omega arith
all_entries_more (q ∷ qs) r = omega (arith, all_entries_more qs r)

pub unroll : (fuel : ℕ) (m : Value) (at : ℕ) (left : List ℕ) → 1 ≤ length left → read_rest (suc fuel) m at left ≡ follow (read_rest fuel) at left (step false m left)
unroll fuel m at [] h = absurd (omega arith)
unroll fuel m at (b ∷ bs) h = refl

rest_accepted : (fuel : ℕ) (m : Value) (rs : List Record) (at : ℕ) → length (flat_map record_bytes rs) ≤ fuel → AllByRecursion (RecordValid (length m.windows)) rs → length m.records + length rs ≤ 64 → entries m.records + entries rs ≤ 1024 → read_rest fuel m at (flat_map record_bytes rs) ≡ accepted (record { windows = m.windows; records = m.records ++ rs })
rest_accepted fuel m [] at f v few most = ap (λ (rs : List Record). accepted (record { windows = m.windows; records = rs })) (sym (append-nil m.records))
rest_accepted zero m (r ∷ rs) at f v few most = absurd (omega (arith, f, length-append (record_bytes r) (flat_map record_bytes rs), record_some r))
rest_accepted (suc fuel) m (r ∷ rs) at f v few most =
    let left = record_bytes r ++ flat_map record_bytes rs in
    let n = length-append (record_bytes r) (flat_map record_bytes rs) in
    let s = record_some r in
    let e = all_entries_more m.records r in
    let d = length-append m.records (r ∷ []) in
    unroll fuel m at left (omega arith)
    ∙ ap (follow (read_rest fuel) at left) (record_step m r (flat_map record_bytes rs) v.0 (record { records = omega arith; entries = omega arith }))
    ∙ ap (read_rest fuel (with_record m r) (at + extent left)) (record_rest r (flat_map record_bytes rs))
    ∙ rest_accepted fuel (with_record m r) rs (at + extent left) (omega arith) v.1 (omega arith) (omega arith)
    ∙ ap (λ (qs : List Record). accepted (record { windows = m.windows; records = qs })) (append_assoc m.records (r ∷ []) rs)

pub laid_out_is_accepted : (m : Value) → Valid m → read_model (encode m) ≡ accepted m
laid_out_is_accepted m v =
    let rest = flat_map record_bytes m.records in
    let ws = m.windows in
    let bs = windows_bytes ws ++ rest in
    let n = length-append (windows_bytes ws) rest in
    ap (follow (read_rest (length bs)) 0 bs) (windows-step ws rest v.some_variable v.few_variables (windows_pass ws v.windows))
    ∙ ap (read_rest (length bs) (record { windows = ws; records = [] }) (0 + extent bs)) (framed_rest 1 (length ws ∷ flat_map window_bytes ws) rest)
    ∙ rest_accepted (length bs) (record { windows = ws; records = [] }) m.records (0 + extent bs) (omega arith) v.records (omega (arith, v.few_records)) (omega (arith, v.few_entries))

-- what is accepted is laid out

pub record Fits (k : RecordKind) (left : List ℕ) : Type 0 where
  pub enough : (shape k).least ≤ count left
  pub few : count left ≤ 64
  pub size : body_length left ≡ (shape k).before + (shape k).each * count left

pub fitting : (k : RecordKind) (left : List ℕ) → is_misfit k left ≡ false → Fits k left
fitting k left h =
    let p = and_parts _ _ (not-false _ h) in
    let q = and_parts _ _ p.1 in
    record { enough = leb-true _ _ p.0; few = leb-true _ _ q.0; size = eqb-true _ _ q.1 }

room_for : (m : Value) (n : ℕ) → (leb 64 (length m.records) || ltb 1024 (entries m.records + n)) ≡ false → (length m.records < 64) × (entries m.records + n ≤ 1024)
room_for m n h = let p = or_parts _ _ h in (leb-false 64 (length m.records) p.0, ltb-false 1024 (entries m.records + n) p.1)

windows-back : (left : List ℕ) → Bytes left → word left 2 ≡ 1 → extent left ≤ length left → Fits Windows left → windows_bytes (windows_in (count left) (entry_bytes Windows left)) ++ drop (extent left) left ≡ left
windows-back [] o k l f = absurd (omega (arith, f.size, f.enough))
windows-back (a ∷ []) o k l f = absurd (omega (arith, f.size, f.enough))
windows-back (a ∷ b ∷ []) o k l f = absurd (omega (arith, f.size, f.enough))
windows-back (a ∷ b ∷ c ∷ []) o k l f = absurd (omega (arith, f.size, f.enough))
windows-back (a ∷ b ∷ c ∷ d ∷ []) o k l f = absurd (omega (arith, f.size, f.enough))
windows-back (a ∷ b ∷ c ∷ d ∷ n ∷ bs) o k l f =
    let size : a + 256 * b ≡ 1 + 2 * n = f.size in
    let ws = windows_in n bs in
    let e : length (flat_map window_bytes ws) ≡ 2 * n = length-window_bytes ws ∙ ap (λ (i : ℕ). 2 * i) (length-entries window_at 2 n bs) in
    let a₁ : suc (length (flat_map window_bytes ws)) % 256 ≡ a = omega (arith, e, o.0) in
    let b₁ : suc (length (flat_map window_bytes ws)) / 256 ≡ b = omega (arith, e, o.0) in
    let c₁ : 1 ≡ c = omega (arith, k, o.1.1.0) in
    let d₁ : 0 ≡ d = omega (arith, k, o.1.1.0) in
    let n₁ = length-entries window_at 2 n bs in
    let t : 4 + (a + 256 * b) ≡ suc (suc (suc (suc (suc (2 * n))))) = omega arith in
    let u : drop (4 + (a + 256 * b)) (a ∷ b ∷ c ∷ d ∷ n ∷ bs) ≡ drop (2 * n) bs = ap (λ (i : ℕ). drop i (a ∷ b ∷ c ∷ d ∷ n ∷ bs)) t in
    let w : flat_map window_bytes ws ++ drop (4 + (a + 256 * b)) (a ∷ b ∷ c ∷ d ∷ n ∷ bs) ≡ bs = ap (λ (x : List ℕ). flat_map window_bytes ws ++ x) u ∙ windows_laid n bs (omega (arith, l)) in
    cc

at_most-back : (left : List ℕ) → Bytes left → word left 2 ≡ 2 → extent left ≤ length left → Fits AtMost left → record_bytes (at_most (bound_in left) (terms_in (count left) (entry_bytes AtMost left))) ++ drop (extent left) left ≡ left
at_most-back [] o k l f = absurd (omega (arith, f.size, f.enough))
at_most-back (a ∷ []) o k l f = absurd (omega (arith, f.size, f.enough))
at_most-back (a ∷ b ∷ []) o k l f = absurd (omega (arith, f.size, f.enough))
at_most-back (a ∷ b ∷ c ∷ []) o k l f = absurd (omega (arith, f.size, f.enough))
at_most-back (a ∷ b ∷ c ∷ d ∷ []) o k l f = absurd (omega (arith, f.size, f.enough))
at_most-back (a ∷ b ∷ c ∷ d ∷ n ∷ []) o k l f = absurd (omega (arith, f.size, f.enough))
at_most-back (a ∷ b ∷ c ∷ d ∷ n ∷ p ∷ []) o k l f = absurd (omega (arith, f.size, f.enough))
at_most-back (a ∷ b ∷ c ∷ d ∷ n ∷ p ∷ q ∷ []) o k l f = absurd (omega (arith, f.size, f.enough))
at_most-back (a ∷ b ∷ c ∷ d ∷ n ∷ p ∷ q ∷ r ∷ []) o k l f = absurd (omega (arith, f.size, f.enough))
at_most-back (a ∷ b ∷ c ∷ d ∷ n ∷ p ∷ q ∷ r ∷ s ∷ bs) o k l f =
    let left = a ∷ b ∷ c ∷ d ∷ n ∷ p ∷ q ∷ r ∷ s ∷ bs in
    let size : a + 256 * b ≡ 5 + 3 * n = f.size in
    let ts = terms_in n bs in
    let x = o.1.1.1.1 in
    let bound : of_z w32 (to_z w32 (p + 256 * q + 65536 * (r + 256 * s))) ≡ p + 256 * q + 65536 * (r + 256 * s) = of_z-to_z w32 _ (omega (arith, x.1.0, x.1.1.0, x.1.1.1.0, x.1.1.1.1.0)) in
    let v : four_bytes (of_z w32 (to_z w32 (p + 256 * q + 65536 * (r + 256 * s)))) ≡ p ∷ q ∷ r ∷ s ∷ [] = ap four_bytes bound ∙ four_laid p q r s x.1.0 x.1.1.0 x.1.1.1.0 in
    let e : length (flat_map term_bytes ts) ≡ 3 * n = length-term_bytes ts ∙ ap (λ (i : ℕ). 3 * i) (length-entries term_at 3 n bs) in
    let a₁ : suc (suc (suc (suc (suc (length (flat_map term_bytes ts)))))) % 256 ≡ a = omega (arith, e, o.0) in
    let b₁ : suc (suc (suc (suc (suc (length (flat_map term_bytes ts)))))) / 256 ≡ b = omega (arith, e, o.0) in
    let c₁ : 2 ≡ c = omega (arith, k, o.1.1.0) in
    let d₁ : 0 ≡ d = omega (arith, k, o.1.1.0) in
    let n₁ = length-entries term_at 3 n bs in
    let t : 4 + (a + 256 * b) ≡ suc (suc (suc (suc (suc (suc (suc (suc (suc (3 * n))))))))) = omega arith in
    let u : drop (4 + (a + 256 * b)) left ≡ drop (3 * n) bs = ap (λ (i : ℕ). drop i left) t in
    let w : flat_map term_bytes ts ++ drop (4 + (a + 256 * b)) left ≡ bs = ap (λ (y : List ℕ). flat_map term_bytes ts ++ y) u ∙ terms_laid n bs x.1.1.1.1.1 (omega (arith, l)) in
    ap (λ (y : List ℕ). (two_bytes (suc (length (y ++ flat_map term_bytes ts))) ++ (2 ∷ 0 ∷ (length ts ∷ (y ++ flat_map term_bytes ts)))) ++ drop (4 + (a + 256 * b)) left) v
    ∙ cc

different_back : (left : List ℕ) → Bytes left → word left 2 ≡ 3 → extent left ≤ length left → Fits Different left → record_bytes (different (variables_in 1 (count left) (entry_bytes Different left))) ++ drop (extent left) left ≡ left
different_back [] o k l f = absurd (omega (arith, f.size, f.enough))
different_back (a ∷ []) o k l f = absurd (omega (arith, f.size, f.enough))
different_back (a ∷ b ∷ []) o k l f = absurd (omega (arith, f.size, f.enough))
different_back (a ∷ b ∷ c ∷ []) o k l f = absurd (omega (arith, f.size, f.enough))
different_back (a ∷ b ∷ c ∷ d ∷ []) o k l f = absurd (omega (arith, f.size, f.enough))
different_back (a ∷ b ∷ c ∷ d ∷ n ∷ bs) o k l f =
    let left = a ∷ b ∷ c ∷ d ∷ n ∷ bs in
    let size : a + 256 * b ≡ 1 + 1 * n = f.size in
    let n₁ = length-entries variable_at 1 n bs in
    let a₁ : suc (length (variables_in 1 n bs)) % 256 ≡ a = omega (arith, n₁, o.0) in
    let b₁ : suc (length (variables_in 1 n bs)) / 256 ≡ b = omega (arith, n₁, o.0) in
    let c₁ : 3 ≡ c = omega (arith, k, o.1.1.0) in
    let d₁ : 0 ≡ d = omega (arith, k, o.1.1.0) in
    let t : 4 + (a + 256 * b) ≡ suc (suc (suc (suc (suc n)))) = omega arith in
    let u : drop (4 + (a + 256 * b)) left ≡ drop n bs = ap (λ (i : ℕ). drop i left) t in
    let w : variables_in 1 n bs ++ drop (4 + (a + 256 * b)) left ≡ bs = ap (λ (y : List ℕ). variables_in 1 n bs ++ y) u ∙ listed_laid n bs (omega (arith, l)) in
    cc

pub record Laid (m next : Value) (left : List ℕ) : Type 0 where
  pub valid : Valid next
  pub bytes : encode next ++ drop (extent left) left ≡ encode m ++ left

-- a valid record is added to a valid model
with_valid : (m : Value) (r : Record) → Valid m → RecordValid (length m.windows) r → Room m r → Valid (with_record m r)
with_valid m r v w room = record {
  some_variable = v.some_variable;
  few_variables = v.few_variables;
  windows = v.windows;
  few_records = omega (arith, length-append m.records (r ∷ []), room.records);
  few_entries = omega (arith, all_entries_more m.records r, room.entries);
  records = All-push (RecordValid (length m.windows)) m.records r v.records w;
}

with_bytes : (m : Value) (r : Record) (left rest : List ℕ) → record_bytes r ++ rest ≡ left → encode (with_record m r) ++ rest ≡ encode m ++ left
with_bytes m r left rest e =
    ap (λ (bs : List ℕ). bs ++ rest) (sym (flat_map_more record_bytes (windows_bytes m.windows) m.records r))
    ∙ append_assoc (encode m) (record_bytes r) rest
    ∙ ap (λ (bs : List ℕ). encode m ++ bs) e

no : true ≡ false → ⊥
no e = true≢false e

record_laid : (m : Value) (left : List ℕ) (next : Value) → Bytes left → Valid m → step false m left ≡ more next → Laid m next left
record_laid m left next o v e = let r = step-read false m left next e in go r.kind r.is r.passes r.gives
  where
    at_most-valid : Unbroken (rows false AtMost m left) → RecordValid (length m.windows) (at_most (bound_in left) (terms_in (count left) (entry_bytes AtMost left)))
    at_most-valid u =
        let f = fitting AtMost left u.1.1.0 in
        let ts = terms_in (count left) (entry_bytes AtMost left) in
        let x = terms-names 3 (count left) (entry_bytes AtMost left) in
        let n = length-map ts (λ (t : Term). t.variable) in
        let k = length-entries term_at 3 (count left) (entry_bytes AtMost left) in
        let b = named-below (length m.windows) (variables_in 3 (count left) (entry_bytes AtMost left)) (not-false _ u.1.1.1.1.1.0) in
        record {
          enough = omega (arith, n, k, f.enough);
          few = omega (arith, n, k, f.few);
          sized = (read_sfits w32 (long left 5), terms-sized (count left) (entry_bytes AtMost left));
          below = subst (AllByRecursion (λ y. y < length m.windows)) (sym x) b.0;
          apart = subst Distinct (sym x) b.1;
        }

    different_valid : Unbroken (rows false Different m left) → RecordValid (length m.windows) (different (variables_in 1 (count left) (entry_bytes Different left)))
    different_valid u =
        let f = fitting Different left u.1.1.0 in
        let k = length-entries variable_at 1 (count left) (entry_bytes Different left) in
        let b = named-below (length m.windows) (variables_in 1 (count left) (entry_bytes Different left)) (not-false _ u.1.1.1.1.1.0) in
        record { enough = omega (arith, k, f.enough); few = omega (arith, k, f.few); sized = tt; below = b.0; apart = b.1 }

    go : (k : RecordKind) → word left 2 ≡ number_of k → Unbroken (rows false k m left) → next ≡ extended k m left → Laid m next left
    go Windows q u g = absurd (no u.0)
    go AtMost q u g =
        let r = at_most (bound_in left) (terms_in (count left) (entry_bytes AtMost left)) in
        let w = at_most-valid u in
        let p = room_for m (count left) u.1.1.1.0 in
        let n = length-map (terms_in (count left) (entry_bytes AtMost left)) (λ (t : Term). t.variable) in
        let k = length-entries term_at 3 (count left) (entry_bytes AtMost left) in
        rw g (record {
          valid = with_valid m r v w (record { records = p.0; entries = omega (arith, n, k, p.1) });
          bytes = with_bytes m r left (drop (extent left) left) (at_most-back left o q (ltb-false _ _ u.1.0) (fitting AtMost left u.1.1.0));
        })
    go Different q u g =
        let r = different (variables_in 1 (count left) (entry_bytes Different left)) in
        let w = different_valid u in
        let p = room_for m (count left) u.1.1.1.0 in
        let k = length-entries variable_at 1 (count left) (entry_bytes Different left) in
        rw g (record {
          valid = with_valid m r v w (record { records = p.0; entries = omega (arith, k, p.1) });
          bytes = with_bytes m r left (drop (extent left) left) (different_back left o q (ltb-false _ _ u.1.0) (fitting Different left u.1.1.0));
        })

windows_laid_out : (left : List ℕ) (next : Value) → Bytes left → step true nothing left ≡ more next → Valid next × (encode next ++ drop (extent left) left ≡ left)
windows_laid_out left next o e = let r = step-read true nothing left next e in go r.kind r.is r.passes r.gives
  where
    go : (k : RecordKind) → word left 2 ≡ number_of k → Unbroken (rows true k nothing left) → next ≡ extended k nothing left → Valid next × (encode next ++ drop (extent left) left ≡ left)
    go Windows q u g =
        let f = fitting Windows left u.1.1.0 in
        let ws = windows_in (count left) (entry_bytes Windows left) in
        let n = length-entries window_at 2 (count left) (entry_bytes Windows left) in
        rw g (
          record {
            some_variable = omega (arith, n, f.enough);
            few_variables = omega (arith, n, f.few);
            windows = windows-valid ws (not-false _ u.1.1.1.1.0);
            few_records = omega arith;
            few_entries = omega arith;
            records = tt;
          },
          ap (λ (bs : List ℕ). bs ++ drop (extent left) left) (append-nil (windows_bytes ws)) ∙ windows-back left o q (ltb-false _ _ u.1.0) f,
        )
    go AtMost q u g = absurd (no u.0)
    go Different q u g = absurd (no u.0)

never : (m : Value) (n at : ℕ) → refused n at ≡ accepted m → ⊥
never m n at e = let z : ◌≡◌ {A = ℕ} 0 1 = cc in omega arith

rest_laid : (fuel : ℕ) (m : Value) (at : ℕ) (left : List ℕ) (next : Value) → Bytes left → Valid m → read_rest fuel m at left ≡ accepted next → Valid next × (encode next ≡ encode m ++ left)
rest_laid fuel m at [] next o v e = let s : m ≡ next = cc in (subst Valid s v, ap encode (sym s) ∙ sym (append-nil (encode m)))
rest_laid zero m at (b ∷ bs) next o v e = absurd (never next 1 at e)
rest_laid (suc fuel) m at (b ∷ bs) next o v e = go (λ k. rest_laid fuel k (at + extent (b ∷ bs)) (drop (extent (b ∷ bs)) (b ∷ bs)) next (All-drop (λ c. c < 256) (extent (b ∷ bs)) (b ∷ bs) o)) (step false m (b ∷ bs)) refl e
  where
    go : ((k : Value) → Valid k → read_rest fuel k (at + extent (b ∷ bs)) (drop (extent (b ∷ bs)) (b ∷ bs)) ≡ accepted next → Valid next × (encode next ≡ encode k ++ drop (extent (b ∷ bs)) (b ∷ bs))) → (s : Step) → step false m (b ∷ bs) ≡ s → follow (read_rest fuel) at (b ∷ bs) s ≡ accepted next → Valid next × (encode next ≡ encode m ++ (b ∷ bs))
    go rest (broken n) q h = absurd (never next n at h)
    go rest (more k) q h =
        let l = record_laid m (b ∷ bs) k o v q in
        let r = rest k l.valid h in
        (r.0, r.1 ∙ l.bytes)

pub accepted_is_laid_out : (bs : List ℕ) (m : Value) → Bytes bs → read_model bs ≡ accepted m → Valid m × (encode m ≡ bs)
accepted_is_laid_out bs m o e = go (step true nothing bs) refl e
  where
    go : (s : Step) → step true nothing bs ≡ s → follow (read_rest (length bs)) 0 bs s ≡ accepted m → Valid m × (encode m ≡ bs)
    go (broken n) q h = absurd (never m n 0 h)
    go (more k) q h =
        let l = windows_laid_out bs k o q in
        let r = rest_laid (length bs) k (0 + extent bs) (drop (extent bs) bs) m (All-drop (λ c. c < 256) (extent bs) bs o) l.0 h in
        (r.0, r.1 ∙ l.1)

pub bytes_tell_models_apart : (m k : Value) → Valid m → Valid k → encode m ≡ encode k → m ≡ k
bytes_tell_models_apart m k v w e =
    let p : accepted m ≡ accepted k = sym (laid_out_is_accepted m v) ∙ ap read_model e ∙ laid_out_is_accepted k w in
    cc
