-- Entries and their bytes: what is laid out is read back, and what is read is laid out again.
use Rattle.std.proofs.Common.{◌≡◌, ℕ, zero, suc, ◌+◌, ◌*◌, ◌/◌, ◌%◌, ◌<◌, ◌≤◌, true, false, not, ◌&&◌, eqb, ltb, ◌≢◌, List, [], ◌∷◌, ◌++◌, map, length, get_or, drop, ℤ, refl, ap, ◌∙◌, ap₂, mul-suc, arith, w16, SFits, to_z, of_z}
use borrow.Author.Gap.{read_sfits}
use Rattle.std.proofs.lemmas.List.{drop-drop}
use Rattle.std.proofs.lemmas.Int.{to_z-of_z, of_z-to_z}
use Rattle.std.proofs.lemmas.Bool.{and_parts, and_from, or_parts, or_from, not-true, not_from_false, ltb-true, lt-ltb, eqb-false, ne_eqb, leb-true, le-leb}
use Rattle.std.specs.List.{flat_map, AllByRecursion}
use Rattle.model.specs.declared.values.Window.{Window}
use Rattle.model.specs.declared.values.Term.{Term}
use Rattle.model.specs.Values.{Distinct, WindowValid}
use Rattle.model.specs.Layout.{two_bytes, four_bytes, window_bytes, term_bytes}
use Rattle.model.specs.Reading.{word, entries_in, term_at, windows_in, terms_in, variables_in, do_windows_fit, among, is_named_once}
use Rattle.model.specs.Layout.{Bytes}

-- numbers

pub two_read : (n : ℕ) → n % 256 + 256 * (n / 256) ≡ n
two_read n = omega arith

pub four_read : (n : ℕ) → n % 256 + 256 * (n / 256 % 256) + 65536 * (n / 65536 % 256 + 256 * (n / 16777216)) ≡ n
four_read n = omega arith

pub two_laid : (a b : ℕ) → a < 256 → two_bytes (a + 256 * b) ≡ a ∷ b ∷ []
two_laid a b h = ap₂ (λ (x y : ℕ). x ∷ y ∷ []) (omega arith) (omega arith)

pub four_laid : (a b c d : ℕ) → a < 256 → b < 256 → c < 256 → four_bytes (a + 256 * b + 65536 * (c + 256 * d)) ≡ a ∷ b ∷ c ∷ d ∷ []
four_laid a b c d p q r =
    let n : ℕ = a + 256 * b + 65536 * (c + 256 * d) in
    let e : n % 256 ≡ a = omega arith in
    let f₁ : n / 256 ≡ b + 256 * (c + 256 * d) = omega arith in
    let f : n / 256 % 256 ≡ b = rw f₁ (omega arith) in
    let g₁ : n / 65536 ≡ c + 256 * d = omega arith in
    let g : n / 65536 % 256 ≡ c = rw g₁ (omega arith) in
    let h : n / 16777216 ≡ d = omega arith in
    cc

-- entries of any kind

pub length-entries : {A : Type 0} (f : List ℕ → A) (each n : ℕ) (bs : List ℕ) → length (entries_in f each n bs) ≡ n
length-entries f each zero bs = refl
length-entries f each (suc n) bs = ap suc (length-entries f each n (drop each bs))

pub entries_more : {A : Type 0} (f : List ℕ → A) (each n : ℕ) (bs : List ℕ) → entries_in f each (n + 1) bs ≡ entries_in f each n bs ++ (f (drop (each * n) bs) ∷ [])
entries_more f each zero bs = let e : each * 0 ≡ 0 = omega arith in rw e refl
entries_more f each (suc n) bs =
    let e : suc n + 1 ≡ suc (n + 1) = omega arith in
    let d : drop (each * n) (drop each bs) ≡ drop (each * suc n) bs = drop-drop (each * n) each bs ∙ ap (λ (i : ℕ). drop i bs) (omega (arith, mul-suc each n)) in
    ap (λ (i : ℕ). entries_in f each i bs) e ∙ ap (λ xs. f bs ∷ xs) (entries_more f each n (drop each bs) ∙ ap (λ (cs : List ℕ). entries_in f each n (drop each bs) ++ (f cs ∷ [])) d)

-- windows

pub windows-read : (ws : List Window) (rest : List ℕ) → windows_in (length ws) (flat_map window_bytes ws ++ rest) ≡ ws
windows-read [] rest = refl
windows-read (w ∷ ws) rest = ap (λ (vs : List Window). w ∷ vs) (windows-read ws rest)

pub windows_laid : (n : ℕ) (bs : List ℕ) → 2 * n ≤ length bs → flat_map window_bytes (windows_in n bs) ++ drop (2 * n) bs ≡ bs
windows_laid zero bs h = refl
windows_laid (suc n) [] h = absurd (omega arith)
windows_laid (suc n) (a ∷ []) h = absurd (omega arith)
windows_laid (suc n) (a ∷ b ∷ bs) h =
    let e : 2 * suc n ≡ suc (suc (2 * n)) = omega arith in
    rw e (ap (λ (cs : List ℕ). a ∷ b ∷ cs) (windows_laid n bs (omega arith)))

pub length-window_bytes : (ws : List Window) → length (flat_map window_bytes ws) ≡ 2 * length ws
length-window_bytes [] = refl
length-window_bytes (w ∷ ws) = omega (arith, length-window_bytes ws)

-- terms

pub terms-read : (ts : List Term) (rest : List ℕ) → AllByRecursion (λ t. SFits w16 t.coefficient) ts → terms_in (length ts) (flat_map term_bytes ts ++ rest) ≡ ts
terms-read [] rest f = refl
terms-read (t ∷ ts) rest f =
    let e : to_z w16 (of_z w16 t.coefficient % 256 + 256 * (of_z w16 t.coefficient / 256)) ≡ t.coefficient = ap (to_z w16) (two_read (of_z w16 t.coefficient)) ∙ to_z-of_z w16 t.coefficient f.0 in
    ap₂ (λ (z : ℤ) (us : List Term). record { variable = t.variable; coefficient = z } ∷ us) e (terms-read ts rest f.1)

pub terms_laid : (n : ℕ) (bs : List ℕ) → Bytes bs → 3 * n ≤ length bs → flat_map term_bytes (terms_in n bs) ++ drop (3 * n) bs ≡ bs
terms_laid zero bs o h = refl
terms_laid (suc n) [] o h = absurd (omega arith)
terms_laid (suc n) (a ∷ []) o h = absurd (omega arith)
terms_laid (suc n) (a ∷ b ∷ []) o h = absurd (omega arith)
terms_laid (suc n) (a ∷ b ∷ c ∷ bs) o h =
    let e : 3 * suc n ≡ suc (suc (suc (3 * n))) = omega arith in
    let p : b < 256 = o.1.0 in
    let q : c < 256 = o.1.1.0 in
    let f : two_bytes (of_z w16 (to_z w16 (b + 256 * c))) ≡ b ∷ c ∷ [] = ap two_bytes (of_z-to_z w16 (b + 256 * c) (omega arith)) ∙ two_laid b c p in
    rw e (ap₂ (λ (x y : List ℕ). (a ∷ (x ++ y))) f (terms_laid n bs o.1.1.1 (omega arith)))

pub length-term_bytes : (ts : List Term) → length (flat_map term_bytes ts) ≡ 3 * length ts
length-term_bytes [] = refl
length-term_bytes (t ∷ ts) = omega (arith, length-term_bytes ts)

pub terms-sized : (n : ℕ) (bs : List ℕ) → AllByRecursion (λ t. SFits w16 t.coefficient) (terms_in n bs)
terms-sized zero bs = tt
terms-sized (suc n) bs = (read_sfits w16 (word bs 1), terms-sized n (drop 3 bs))

-- the first bytes of terms are their variables
pub terms-names : (each n : ℕ) (bs : List ℕ) → map (λ t. t.variable) (entries_in term_at each n bs) ≡ variables_in each n bs
terms-names each zero bs = refl
terms-names each (suc n) bs = ap (λ (xs : List ℕ). get_or bs 0 0 ∷ xs) (terms-names each n (drop each bs))

-- listed variables

pub listed-read : (xs : List ℕ) (rest : List ℕ) → variables_in 1 (length xs) (xs ++ rest) ≡ xs
listed-read [] rest = refl
listed-read (x ∷ xs) rest = ap (λ (ys : List ℕ). x ∷ ys) (listed-read xs rest)

pub listed_laid : (n : ℕ) (bs : List ℕ) → n ≤ length bs → variables_in 1 n bs ++ drop n bs ≡ bs
listed_laid zero bs h = refl
listed_laid (suc n) [] h = absurd (omega arith)
listed_laid (suc n) (b ∷ bs) h = ap (λ (cs : List ℕ). b ∷ cs) (listed_laid n bs (omega arith))

-- tests and what they say

pub windows-valid : (ws : List Window) → do_windows_fit ws ≡ true → AllByRecursion WindowValid ws
windows-valid [] h = tt
windows-valid (w ∷ ws) h =
    let p = and_parts (ltb w.low w.high && lib.Dec.leb w.high 64) (do_windows_fit ws) h in
    let q = and_parts (ltb w.low w.high) (lib.Dec.leb w.high 64) p.0 in
    (record { some = ltb-true w.low w.high q.0; most = leb-true w.high 64 q.1 }, windows-valid ws p.1)

pub windows_pass : (ws : List Window) → AllByRecursion WindowValid ws → do_windows_fit ws ≡ true
windows_pass [] v = refl
windows_pass (w ∷ ws) v = and_from _ _ (and_from _ _ (lt-ltb w.low w.high v.0.some) (le-leb w.high 64 v.0.most)) (windows_pass ws v.1)

not-among : (x : ℕ) (ys : List ℕ) → among x ys ≡ false → AllByRecursion (λ y. x ≢ y) ys
not-among x [] h = tt
not-among x (y ∷ ys) h = let p = or_parts (eqb x y) (among x ys) h in (eqb-false x y p.0, not-among x ys p.1)

apart-among : (x : ℕ) (ys : List ℕ) → AllByRecursion (λ y. x ≢ y) ys → among x ys ≡ false
apart-among x [] a = refl
apart-among x (y ∷ ys) a = or_from _ _ (ne_eqb x y a.0) (apart-among x ys a.1)

pub named-below : (n : ℕ) (xs : List ℕ) → is_named_once n xs ≡ true → AllByRecursion (λ x. x < n) xs × Distinct xs
named-below n [] h = (tt, tt)
named-below n (x ∷ xs) h =
    let p = and_parts (ltb x n && not (among x xs)) (is_named_once n xs) h in
    let q = and_parts (ltb x n) (not (among x xs)) p.0 in
    let r = named-below n xs p.1 in
    ((ltb-true x n q.0, r.0), (not-among x xs (not-true (among x xs) q.1), r.1))

pub named_pass : (n : ℕ) (xs : List ℕ) → AllByRecursion (λ x. x < n) xs → Distinct xs → is_named_once n xs ≡ true
named_pass n [] b d = refl
named_pass n (x ∷ xs) b d = and_from _ _ (and_from _ _ (lt-ltb x n b.0) (not_from_false _ (apart-among x xs d.0))) (named_pass n xs b.1 d.1)
