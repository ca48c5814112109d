-- Windows and variables, as a loop over the entries meets them.
use Rattle.std.proofs.Common.{◌≡◌, ℕ, ◌<◌, ◌≤◌, Bool, true, false, not, ◌&&◌, ◌||◌, eqb, List, [], ◌∷◌, sym, refl, ap, ◌∙◌, ap₂, ⊎_elim}
use Rattle.std.proofs.lemmas.Bool.{and_from, and_left, and_right, lt-ltb, le-ltb, le-leb, lt-leb, eq-eqb, ne_eqb, cases_eq}
use Rattle.model.specs.declared.values.Window.{Window}
use Rattle.model.specs.Reading.{do_windows_fit, among, is_named_once}

-- the window at hand, before others
module _ (w : Window) (ws : List Window) where
  pub window_passes : w.low < w.high → w.high ≤ 64 → do_windows_fit (w ∷ ws) ≡ do_windows_fit ws
  window_passes p q = ap (λ (b : Bool). b && do_windows_fit ws) (and_from _ _ (lt-ltb _ _ p) (le-leb _ 64 q))

  pub window_empty : w.high ≤ w.low → do_windows_fit (w ∷ ws) ≡ false
  window_empty p = and_left _ _ (and_left _ _ (le-ltb _ _ p))

  pub window_beyond : 64 < w.high → do_windows_fit (w ∷ ws) ≡ false
  window_beyond q = and_left _ _ (and_right _ _ (lt-leb _ 64 q))

-- variables seen so far

abbrev pub is_fresh : (ℕ → Bool) → List ℕ → Bool
is_fresh seen [] = true
is_fresh seen (x ∷ xs) = not (seen x) && is_fresh seen xs

fresh-none : (seen : ℕ → Bool) (xs : List ℕ) → ((u : ℕ) → seen u ≡ false) → is_fresh seen xs ≡ true
fresh-none seen [] h = refl
fresh-none seen (x ∷ xs) h = and_from _ _ (ap not (h x)) (fresh-none seen xs h)

fresh_with : (seen now : ℕ → Bool) (x : ℕ) (xs : List ℕ) → ((u : ℕ) → now u ≡ (seen u || eqb u x)) → is_fresh now xs ≡ (is_fresh seen xs && not (among x xs))
fresh_with seen now x [] h = refl
fresh_with seen now x (y ∷ ys) h =
    let e : now y ≡ (seen y || eqb x y) = h y ∙ ap (λ (b : Bool). seen y || b) (eqb_sym y x) in
    ap₂ (λ (a b : Bool). not a && b) e (fresh_with seen now x ys h) ∙ regroup (seen y) (eqb x y) (is_fresh seen ys) (among x ys)
  where
    eqb_sym : (a b : ℕ) → eqb a b ≡ eqb b a
    eqb_sym a b = ⊎_elim (λ q. eq-eqb a b q ∙ sym (eq-eqb b a (sym q))) (λ q. ne_eqb a b q ∙ sym (ne_eqb b a (λ z. q (sym z)))) (cases_eq a b)

    regroup : (s q f a : Bool) → (not (s || q) && (f && not a)) ≡ ((not s && f) && not (q || a))
    regroup true q f a = refl
    regroup false true true a = refl
    regroup false true false a = refl
    regroup false false f a = refl

module _ (n : ℕ) (seen : ℕ → Bool) (x : ℕ) (xs : List ℕ) where
  pub named-next : (now : ℕ → Bool) → ((u : ℕ) → now u ≡ (seen u || eqb u x)) → x < n → seen x ≡ false → (is_fresh seen (x ∷ xs) && is_named_once n (x ∷ xs)) ≡ (is_fresh now xs && is_named_once n xs)
  named-next now h lt s =
      ap₂ (λ (a b : Bool). (not a && is_fresh seen xs) && ((b && not (among x xs)) && is_named_once n xs)) s (lt-ltb x n lt)
      ∙ regroup (is_fresh seen xs) (not (among x xs)) (is_named_once n xs)
      ∙ ap (λ (b : Bool). b && is_named_once n xs) (sym (fresh_with seen now x xs h))
    where
      regroup : (f a r : Bool) → ((true && f) && ((true && a) && r)) ≡ ((f && a) && r)
      regroup true a r = refl
      regroup false a r = refl

  pub named_beyond : n ≤ x → (is_fresh seen (x ∷ xs) && is_named_once n (x ∷ xs)) ≡ false
  named_beyond le = and_right _ _ (and_left _ _ (and_left _ _ (le-ltb x n le)))

  pub named_again : seen x ≡ true → (is_fresh seen (x ∷ xs) && is_named_once n (x ∷ xs)) ≡ false
  named_again s = and_left _ _ (and_left _ _ (ap not s))

pub named_start : (n : ℕ) (seen : ℕ → Bool) (xs ys : List ℕ) → ((u : ℕ) → seen u ≡ false) → xs ≡ ys → (is_fresh seen xs && is_named_once n xs) ≡ is_named_once n ys
named_start n seen xs ys h e = ap (λ (b : Bool). b && is_named_once n xs) (fresh-none seen xs h) ∙ ap (is_named_once n) e
