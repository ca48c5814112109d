-- Entries one after another, as chunks of the bytes.
use Rattle.std.proofs.Common.{◌≡◌, ℕ, zero, suc, ◌*◌, ◌<◌, ◌≤◌, List, ◌∷◌, ◌++◌, length, take, drop, sym, refl, ap, ◌∙◌, ap₂, mul-suc, arith}
use Rattle.std.proofs.lemmas.List.{append_assoc, length-append, length-drop, length-take-le, take-append-drop, drop_at, drop-append-le}
use Rattle.model.specs.Reading.{entries_in, variable_at}
use Rattle.model.specs.Fronts.{ReadsFront, variable_front}

-- no whole entry is left
pub none : (each : ℕ) → 1 ≤ each → (j : ℕ) (rest : List ℕ) → length rest ≡ each * j → length rest < each → j ≡ 0
none each s zero rest w l = refl
none each s (suc j) rest w l = absurd (omega (arith, mul-suc each j))

-- the entry at hand, and those behind it
pub record Next {A : Type 0} (f : List ℕ → A) (each j : ℕ) (rest x behind : List ℕ) : Type 0 where
  pub left : ℕ
  pub is : j ≡ suc left
  pub whole : length behind ≡ each * left
  pub reads : entries_in f each j rest ≡ f x ∷ entries_in f each left behind

module _ {A : Type 0} (f : List ℕ → A) (each : ℕ) (some : 1 ≤ each) (front : ReadsFront each f) where
  pub next : (j : ℕ) (rest x behind : List ℕ) → length rest ≡ each * j → rest ≡ x ++ behind → length x ≡ each → Next f each j rest x behind
  next zero rest x behind w e l = absurd (omega (arith, ap length e, length-append x behind))
  next (suc j) rest x behind w e l = record {
    left = j;
    is = refl;
    whole = omega (arith, ap length e, length-append x behind, mul-suc each j);
    reads = ap (λ (r : List ℕ). f r ∷ entries_in f each j (drop each r)) e ∙ ap₂ (λ (a : A) (r : List ℕ). a ∷ entries_in f each j r) (front x behind l) (drop_at x behind each l);
  }

  front_only : (k : ℕ) (xs ys : List ℕ) → length xs ≡ each * k → entries_in f each k (xs ++ ys) ≡ entries_in f each k xs
  front_only zero xs ys l = refl
  front_only (suc k) xs ys l =
      let h : each ≤ length xs = omega (arith, mul-suc each k) in
      let a = take each xs in
      let b = drop each xs in
      let e : a ++ b ≡ xs = take-append-drop each xs in
      let n : length a ≡ each = length-take-le each xs h in
      let x : f (xs ++ ys) ≡ f xs = ap (λ (z : List ℕ). f (z ++ ys)) (sym e) ∙ ap f (append_assoc a b ys) ∙ front a (b ++ ys) n ∙ sym (front a b n) ∙ ap f e in
      let d : drop each (xs ++ ys) ≡ drop each xs ++ ys = drop-append-le each xs ys h in
      ap₂ (λ (u : A) (z : List ℕ). u ∷ entries_in f each k z) x d ∙ ap (λ (zs : List A). f xs ∷ zs) (front_only k (drop each xs) ys (omega (arith, length-drop each xs, mul-suc each k)))

  -- the bytes of the entries are all that is read
  pub entries-cut : (k : ℕ) (bs : List ℕ) → each * k ≤ length bs → entries_in f each k (take (each * k) bs) ≡ entries_in f each k bs
  entries-cut k bs h = sym (front_only k (take (each * k) bs) (drop (each * k) bs) (length-take-le (each * k) bs h)) ∙ ap (entries_in f each k) (take-append-drop (each * k) bs)

-- the variable at hand, and those behind it
pub next_variable : (each : ℕ) → 1 ≤ each → (j : ℕ) (rest x behind : List ℕ) → length rest ≡ each * j → rest ≡ x ++ behind → length x ≡ each → Next variable_at each j rest x behind
next_variable each s = next variable_at each s (variable_front each s)
