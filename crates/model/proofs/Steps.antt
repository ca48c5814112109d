-- A record that is there as a whole: which of the later rows it breaks, or what is read with it.
use Rattle.std.proofs.Common.{◌≡◌, ℕ, ◌+◌, ◌*◌, ◌≤◌, Bool, true, false, ◌||◌, ltb, leb, List, length, take, Some, None, sym, refl, ap, ◌∙◌, ap₂, subst, arith, ◌&&◌}
use Rattle.std.proofs.lemmas.Bool.{and_from, and_parts, cond-false, cond-true, le-leb, le-ltb, leb-false, leb-true, lt-leb, lt-ltb, ltb-false, ltb-true, not_from_false, not_from_true, or_from, or_left, or_right, true≢false}
use Rattle.model.specs.declared.form.RecordKind.{RecordKind}
use Rattle.model.specs.declared.form.RecordKind.TheVariants.{Windows, AtMost, Different}
use Rattle.model.specs.Kinds.{shape}
use Rattle.model.specs.Values.{Value, entries}
use Rattle.model.specs.Reading.{count, extent, entry_bytes, entries_in, window_at, variable_at, windows_in, variables_in, do_windows_fit, is_named_once, is_crowded, is_bad_window, is_bad_variable, rows, first_broken, extended, broken, more, by_rows, step}
use Rattle.std.proofs.lemmas.List.{length-drop}
use Rattle.model.specs.declared.entries.Entries.{Entries}
use Rattle.model.specs.Fronts.{ReadsFront, window_front, variable_front}
use Rattle.model.specs.Scans.{Whole, AreEntriesOf, read_by, named_in}
use Rattle.model.proofs.Fronts.{entries-cut}
use Rattle.model.proofs.Layouts.{fitting}
use Rattle.model.proofs.Heads.{known_step}
use Rattle.model.proofs.Rows.{none_broken}

module _ (first : Bool) (left : List ℕ) (k : RecordKind) (w : Whole first left k) (m : Value) where
  whole_row : ltb (length left) (extent left) ≡ false
  whole_row = le-ltb (length left) (extent left) w.ended

  by_rows-step : (o : Rattle.std.specs.declared.option.Option.Option ℕ) → first_broken (rows first k m left) ≡ o → step first m left ≡ by_rows k m left o
  by_rows-step o e = known_step first left m (Some k) w.headed w.known ∙ ap (by_rows k m left) e

  crowded_row : is_crowded k m left ≡ true → step first m left ≡ broken 7
  crowded_row c = by_rows-step (Some 7) (cond-false _ _ _ w.placed ∙ cond-false _ _ _ whole_row ∙ cond-false _ _ _ w.fits ∙ cond-true _ _ _ c)

  window_row : is_crowded k m left ≡ false → is_bad_window k left ≡ true → step first m left ≡ broken 5
  window_row c b = by_rows-step (Some 5) (cond-false _ _ _ w.placed ∙ cond-false _ _ _ whole_row ∙ cond-false _ _ _ w.fits ∙ cond-false _ _ _ c ∙ cond-true _ _ _ b)

  variable-row : is_crowded k m left ≡ false → is_bad_window k left ≡ false → is_bad_variable k m left ≡ true → step first m left ≡ broken 6
  variable-row c b v = by_rows-step (Some 6) (cond-false _ _ _ w.placed ∙ cond-false _ _ _ whole_row ∙ cond-false _ _ _ w.fits ∙ cond-false _ _ _ c ∙ cond-false _ _ _ b ∙ cond-true _ _ _ v)

  read-row : is_crowded k m left ≡ false → is_bad_window k left ≡ false → is_bad_variable k m left ≡ false → step first m left ≡ more (extended k m left)
  read-row c b v = by_rows-step None (none_broken (rows first k m left) (w.placed, (whole_row, (w.fits, (c, (b, (v, tt)))))))

-- the variables that the record names
abbrev named : RecordKind → Value → List ℕ → Bool
named k m left = is_named_once (length m.windows) (variables_in (shape k).each (count left) (entry_bytes k left))

-- constraint records

-- whether there is room, as the rows ask
no-room : (a b : ℕ) → (ltb a 64 && leb b 1024) ≡ false → (leb 64 a || ltb 1024 b) ≡ true
no-room a b e = go (ltb a 64) (leb b 1024) refl refl
  where
    go : (x y : Bool) → ltb a 64 ≡ x → leb b 1024 ≡ y → (leb 64 a || ltb 1024 b) ≡ true
    go false y p q = or_left _ _ (le-leb 64 a (ltb-false a 64 p))
    go true false p q = or_right _ _ (lt-ltb 1024 b (leb-false b 1024 q))
    go true true p q = absurd (true≢false (sym (and_from _ _ p q) ∙ e))

pub crowded_step : (left : List ℕ) (k : RecordKind) (w : Whole false left k) (m : Value) → (ltb (length m.records) 64 && leb (entries m.records + count left) 1024) ≡ false → step false m left ≡ broken 7
crowded_step left Windows w m h = absurd (true≢false w.placed)
crowded_step left AtMost w m h = crowded_row false left AtMost w m (no-room (length m.records) (entries m.records + count left) h)
crowded_step left Different w m h = crowded_row false left Different w m (no-room (length m.records) (entries m.records + count left) h)

roomy : (left : List ℕ) (m : Value) → (ltb (length m.records) 64 && leb (entries m.records + count left) 1024) ≡ true → (leb 64 (length m.records) || ltb 1024 (entries m.records + count left)) ≡ false
roomy left m h =
    let p = and_parts (ltb (length m.records) 64) (leb (entries m.records + count left) 1024) h in
    or_from _ _ (lt-leb 64 (length m.records) (ltb-true _ _ p.0)) (le-ltb 1024 (entries m.records + count left) (leb-true _ _ p.1))

module _ (left : List ℕ) (m : Value) (r : (ltb (length m.records) 64 && leb (entries m.records + count left) 1024) ≡ true) where
  pub variable-step : (k : RecordKind) → Whole false left k → named k m left ≡ false → step false m left ≡ broken 6
  variable-step Windows w e = absurd (true≢false w.placed)
  variable-step AtMost w e = variable-row false left AtMost w m (roomy left m r) refl (not_from_false _ e)
  variable-step Different w e = variable-row false left Different w m (roomy left m r) refl (not_from_false _ e)

  pub record_step : (k : RecordKind) → Whole false left k → named k m left ≡ true → step false m left ≡ more (extended k m left)
  record_step Windows w e = absurd (true≢false w.placed)
  record_step AtMost w e = read-row false left AtMost w m (roomy left m r) refl (not_from_true _ e)
  record_step Different w e = read-row false left Different w m (roomy left m r) refl (not_from_true _ e)

-- the windows

module _ (left : List ℕ) (m : Value) where
  only_windows : (k : RecordKind) → Whole true left k → k ≡ Windows
  only_windows Windows w = refl
  only_windows AtMost w = absurd (true≢false w.placed)
  only_windows Different w = absurd (true≢false w.placed)

  pub windows-whole : (k : RecordKind) → Whole true left k → Whole true left Windows
  windows-whole k w = subst (Whole true left) (only_windows k w) w

  pub window_step : Whole true left Windows → do_windows_fit (windows_in (count left) (entry_bytes Windows left)) ≡ false → step true m left ≡ broken 5
  window_step w e = window_row true left Windows w m refl (not_from_false _ e)

  pub windows-step : Whole true left Windows → do_windows_fit (windows_in (count left) (entry_bytes Windows left)) ≡ true → step true m left ≡ more (extended Windows m left)
  windows-step w e = read-row true left Windows w m refl (not_from_true _ e) refl

-- how long the record is
pub whole-size : (first : Bool) (left : List ℕ) (k : RecordKind) → Whole first left k → (4 + ((shape k).before + (shape k).each * count left) ≤ length left) × (count left ≤ 64)
whole-size first left k w = let f = fitting k left w.fits in (omega (arith, f.size, w.ended), f.few)

pub each-some : (k : RecordKind) → (1 ≤ (shape k).each) × (1 ≤ (shape k).before)
each-some Windows = (omega arith, omega arith)
each-some AtMost = (omega arith, omega arith)
each-some Different = (omega arith, omega arith)

-- the entries, as the rows read them
pub entries-are : {A : Type 0} (f : List ℕ → A) (k : RecordKind) (left : List ℕ) (e : Entries) → ReadsFront e.each f → AreEntriesOf k left e → read_by f e ≡ entries_in f (shape k).each (count left) (entry_bytes k left)
entries-are f k left e front a =
    let n : (shape k).each * count left ≡ e.each * count left = ap (λ (i : ℕ). i * count left) (sym a.each) in
    ap₂ (λ (j : ℕ) (bs : List ℕ). entries_in f e.each j bs) a.number a.bytes
    ∙ ap (λ (i : ℕ). entries_in f e.each (count left) (take i (entry_bytes k left))) n
    ∙ entries-cut f e.each e.some front (count left) (entry_bytes k left) (omega (arith, a.within, length-drop (4 + (shape k).before) left))
    ∙ ap (λ (i : ℕ). entries_in f i (count left) (entry_bytes k left)) a.each

-- the variables that the record names
pub names_are : (k : RecordKind) (left : List ℕ) (e : Entries) → AreEntriesOf k left e → named_in e ≡ variables_in (shape k).each (count left) (entry_bytes k left)
names_are k left e = entries-are variable_at k left e (variable_front e.each e.some)

-- the windows, as they are read
pub windows_are : (left : List ℕ) (k : RecordKind) (e : Entries) → Whole true left k → AreEntriesOf k left e → read_by window_at e ≡ windows_in (count left) (entry_bytes Windows left)
windows_are left Windows e w a = entries-are window_at Windows left e (λ xs ys l. window_front xs ys (l ∙ a.each)) a
windows_are left AtMost e w a = absurd (true≢false w.placed)
windows_are left Different e w a = absurd (true≢false w.placed)
