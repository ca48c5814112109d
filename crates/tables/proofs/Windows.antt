-- Restoring the marks of a store one by one, and writing windows into its cells. Assumes nothing.
use Rattle.std.proofs.Common.{◌≡◌, ℕ, zero, suc, ◌+◌, ◌<◌, ◌≤◌, min, true, false, ◌&&◌, ltb, leb, List, [], ◌∷◌, map, length, get_or, take, set, Some, Ok, sym, refl, ap, ◌∙◌, subst, ⊎_elim, arith}
use mathlib.Core.Path.{fun_ext}
use Rattle.std.specs.List.{slice_get}
use Rattle.std.proofs.lemmas.List.{get_or-set_same, get_or-set_other, length-set}
use Rattle.std.proofs.lemmas.Bool.{cases_eq, cases_lt, leb-true, lt-ltb, le-ltb, and_parts, and_from, and_left, and_right}
use Rattle.bits.specs.Bit.{has}
use Rattle.model.specs.Reading.{is_valid, do_windows_fit, does_window_fit}
use Rattle.model.specs.Values.{Value}
use Rattle.model.specs.declared.values.Window.{Window}
use Rattle.stores.specs.Rows.{Rows, Writes}
use Rattle.tables.specs.Words.{digits, digits_are, domains_of}
use Rattle.tables.specs.Opening.{in_window, windowed, lowest, Rewound, Filled, Opened}

-- ---- marks

-- k marks of s were restored, and t is what is left
pub record Rewinding (s : Rows) (k : ℕ) (t : Rows) : Type 0 where
  pub row : lowest t.row t.saved ≡ lowest s.row s.saved
  pub long : length t.row ≡ length s.row
  pub left : length t.saved + k ≡ length s.saved
  pub depth : t.depth ≡ s.depth

-- ---- cells

pub filled_more : (ws : List Window) (s t u : Rows) (n c : ℕ) → Filled ws n s t → Writes t n c u (Ok tt) → ((v : ℕ) → has c v ≡ windowed ws n v) → Filled ws (n + 1) s u
filled_more ws s t u n c h w f =
    let row : u.row ≡ set t.row n c = ap (λ (z : Rows). z.row) w.1 in
    record {
      cells = λ x v l. ⊎_elim
          (λ e. ap (λ (z : List ℕ). has (get_or z x 0) v) row ∙ ap (λ k. has (get_or (set t.row n c) k 0) v) e ∙ ap (λ k. has k v) (get_or-set_same t.row n c 0 w.0) ∙ f v ∙ ap (λ k. windowed ws k v) (sym e))
          (λ d. ap (λ (z : List ℕ). has (get_or z x 0) v) row ∙ ap (λ k. has k v) (get_or-set_other t.row n x c 0 d) ∙ h.cells x v (omega arith))
          (cases_eq x n);
      rest = λ x l. let d : x ≡ n → ⊥ = λ e. omega arith in ap (λ (z : List ℕ). get_or z x 0) row ∙ get_or-set_other t.row n x c 0 d ∙ h.rest x (omega arith);
      long = ap length row ∙ length-set t.row n c ∙ h.long;
      saved = ap (λ (z : Rows). z.saved) w.1 ∙ h.saved;
      depth = ap (λ (z : Rows). z.depth) w.1 ∙ h.depth;
    }

-- ---- a model's windows

module _ (m : Value) (valid : is_valid m ≡ true) where
  pub windows_fit : do_windows_fit m.windows ≡ true
  windows_fit =
      let some = and_parts (leb 1 (length m.windows)) _ valid in
      let few = and_parts (leb (length m.windows) 64) _ some.1 in
      (and_parts (do_windows_fit m.windows) _ few.1).0

-- every value of a window is a value of a cell
high_fits : (ws : List Window) → do_windows_fit ws ≡ true → (x : ℕ) (w : Window) → Some w ≡ slice_get ws x → w.high ≤ 64
high_fits [] f x w e = let z : ◌≡◌ {A = ℕ} 0 1 = cc in absurd (omega arith)
high_fits (y ∷ ws) f zero w e =
    let p = and_parts (does_window_fit y) (do_windows_fit ws) f in
    let same : w ≡ y = cc in
    subst (λ (z : Window). z.high ≤ 64) (sym same) (leb-true y.high 64 (and_parts (ltb y.low y.high) (leb y.high 64) p.0).1)
high_fits (y ∷ ws) f (suc x) w e = high_fits ws (and_parts (does_window_fit y) (do_windows_fit ws) f).1 x w e

windowed-at : (ws : List Window) (x v : ℕ) (w : Window) → Some w ≡ slice_get ws x → in_window w v ≡ windowed ws x v
windowed-at [] x v w e = let z : ◌≡◌ {A = ℕ} 0 1 = cc in absurd (omega arith)
windowed-at (y ∷ ws) zero v w e = let same : w ≡ y = cc in ap (λ (z : Window). in_window z v) same
windowed-at (y ∷ ws) (suc x) v w e = windowed-at ws x v w e

-- a word that spans the window has its values
pub spanned : (ws : List Window) → do_windows_fit ws ≡ true → (x c : ℕ) (w : Window) → Some w ≡ slice_get ws x
    → ((v : ℕ) → has c v ≡ (leb w.low v && ltb v (min w.high 64))) → (v : ℕ) → has c v ≡ windowed ws x v
spanned ws f x c w e h v =
    let high = high_fits ws f x w e in
    let cut : min w.high 64 ≡ w.high = omega (arith, high) in
    h v ∙ ap (λ k. leb w.low v && ltb v k) cut ∙ windowed-at ws x v w e

windowed-within : (ws : List Window) → do_windows_fit ws ≡ true → (x v : ℕ) → 64 ≤ v → windowed ws x v ≡ false
windowed-within [] f x v l = refl
windowed-within (w ∷ ws) f zero v l =
    let p = and_parts (ltb w.low w.high) (leb w.high 64) (and_parts (does_window_fit w) (do_windows_fit ws) f).0 in
    and_right (leb w.low v) (ltb v w.high) (le-ltb v w.high (omega (arith, leb-true w.high 64 p.1)))
windowed-within (w ∷ ws) f (suc x) v l = windowed-within ws (and_parts (does_window_fit w) (do_windows_fit ws) f).1 x v l

-- ---- the opened table

windowed-take : (ws : List Window) (n x v : ℕ) → x < n → windowed ws x v ≡ windowed (take n ws) x v
windowed-take [] zero x v l = refl
windowed-take [] (suc n) x v l = refl
windowed-take (w ∷ ws) zero x v l = absurd (omega arith)
windowed-take (w ∷ ws) (suc n) zero v l = refl
windowed-take (w ∷ ws) (suc n) (suc x) v l = windowed-take ws n x v (omega arith)

windowed-past : (ws : List Window) (n x v : ℕ) → n ≤ x → windowed (take n ws) x v ≡ false
windowed-past [] zero x v l = refl
windowed-past [] (suc n) x v l = refl
windowed-past (w ∷ ws) zero x v l = refl
windowed-past (w ∷ ws) (suc n) zero v l = absurd (omega arith)
windowed-past (w ∷ ws) (suc n) (suc x) v l = windowed-past ws n x v (omega arith)

module _ (ws : List Window) (fit : do_windows_fit ws ≡ true) where
  domains-windowed : (n : ℕ) (s t : Rows) → Filled ws n s t → domains_of n digits t.row ≡ windowed (take n ws)
  domains-windowed n s t h = fun_ext (λ x. fun_ext (λ v.
      let cell = has (get_or t.row x 0) v in
      ⊎_elim
      (λ l. ⊎_elim
      (λ k. ap (λ b. b && cell) (and_from (ltb x n) (ltb v digits) (lt-ltb x n l) (lt-ltb v digits k)) ∙ h.cells x v l ∙ windowed-take ws n x v l)
      (λ k.
      let past : 64 ≤ v = omega (arith, digits_are) in
      ap (λ b. b && cell) (and_right (ltb x n) (ltb v digits) (le-ltb v digits k)) ∙ sym (windowed-within ws fit x v past) ∙ windowed-take ws n x v l)
      (cases_lt v digits))
      (λ l. ap (λ b. b && cell) (and_left (ltb x n) (ltb v digits) (le-ltb x n l)) ∙ sym (windowed-past ws n x v l))
      (cases_lt x n)))

  -- what rewinding and filling make of a store
  pub opening : (s r t : Rows) (n : ℕ) → n ≡ min (length ws) (length s.row) → Rewound s r → Filled ws n r t → Opened ws s n t
  opening s r t n e rewound filled = record {
    means = λ i. record {
      variables = e i;
      width = digits;
      domains = (domains-windowed n r t filled ∙ ap (λ k. windowed (take k ws)) e) i;
      saved = ap (map (domains_of n digits)) (filled.saved ∙ rewound.saved) i;
      depth = (filled.depth ∙ rewound.depth) i;
    };
    rest = λ x l. filled.rest x l ∙ ap (λ (z : List ℕ). get_or z x 0) rewound.row;
    long = filled.long ∙ rewound.long;
  }
