-- Takes never outnumber the variables: with k takes standing at least k variables are single. Assumes nothing.
use Rattle.std.proofs.Common.{◌≡◌, ℕ, zero, suc, ◌<◌, ◌≤◌, Bool, true, false, cond, leb, List, [], ◌∷◌, length, sym, refl, ap, ◌∙◌, subst, ⊎_elim, true≢false, arith}
use Rattle.std.proofs.lemmas.Bool.{cases_Bool, cases_eq, leb-true, leb-false, le-leb, lt-leb}
use Rattle.tree.specs.Tables.{Table, Inside, Open, kept}
use Rattle.tree.specs.Domains.{size}
use Rattle.tree.specs.Filter.{Problem, Bounded, Node, failed, table}
use Rattle.tree.proofs.Tables.{inside_trans, kept-inside, kept-is}
use Rattle.tree.proofs.Domains.{size_open, open_size}
use Rattle.spaces.specs.Pile.{Stands, singles, Few}

-- sizes of sets, one inside the other

step : (a b : Bool) (m n : ℕ) → (a ≡ true → b ≡ true) → m ≤ n → cond a (suc m) m ≤ cond b (suc n) n
step true true m n f h = omega arith
step true false m n f h = absurd (true≢false (sym (f refl)))
step false true m n f h = omega arith
step false false m n f h = h

strict : (a b : Bool) (m n : ℕ) → (a ≡ true → b ≡ true) → m < n → cond a (suc m) m < cond b (suc n) n
strict true true m n f h = omega arith
strict true false m n f h = absurd (true≢false (sym (f refl)))
strict false true m n f h = omega arith
strict false false m n f h = h

gains : (a b : Bool) (m n : ℕ) → a ≡ false → b ≡ true → m ≤ n → cond a (suc m) m < cond b (suc n) n
gains true b m n p q h = absurd (true≢false p)
gains false false m n p q h = absurd (true≢false (sym q))
gains false true m n p q h = omega arith

size-inside : (d e : ℕ → Bool) (n : ℕ) → ((x : ℕ) → d x ≡ true → e x ≡ true) → size d n ≤ size e n
size-inside d e zero f = omega arith
size-inside d e (suc n) f = step (d n) (e n) (size d n) (size e n) (f n) (size-inside d e n f)

size_less : (d e : ℕ → Bool) (n y : ℕ) → ((x : ℕ) → d x ≡ true → e x ≡ true) → y < n → d y ≡ false → e y ≡ true → size d n < size e n
size_less d e zero y f l p q = let z : ⊥ = omega arith in absurd z
size_less d e (suc n) y f l p q =
    ⊎_elim
    (λ (s : y ≡ n). gains (d n) (e n) (size d n) (size e n) (ap d (sym s) ∙ p) (ap e (sym s) ∙ q) (size-inside d e n f))
    (λ ne. strict (d n) (e n) (size d n) (size e n) (f n) (size_less d e n y f (omega arith) p q))
    (cases_eq y n)

size-all : (n : ℕ) → size (λ x. true) n ≡ n
size-all zero = refl
size-all (suc n) = ap suc (size-all n)

module _ (P : Problem) where
  abbrev is_single : Table → ℕ → Bool
  is_single T x = leb (size (T x) P.width) 1

  open_not : (T : Table) (x : ℕ) → Bounded P T → Open T x → is_single T x ≡ false
  open_not T x b o =
      lt-leb (size (T x) P.width) 1 (open_size (T x) P.width o.one o.other (b x o.one o.has_one).1 (b x o.other o.has_other).1 o.apart o.has_one o.has_other)

  closed_is : (T : Table) (x : ℕ) → (Open T x → ⊥) → is_single T x ≡ true
  closed_is T x f = ⊎_elim (λ t. t) (λ n. absurd (f (size_open T x P.width (leb-false (size (T x) P.width) 1 n)))) (cases_Bool (is_single T x))

  single-inside : (S T : Table) → Inside S T → (x : ℕ) → is_single T x ≡ true → is_single S x ≡ true
  single-inside S T i x h =
      let l = leb-true (size (T x) P.width) 1 h in
      let m = size-inside (S x) (T x) P.width (i x) in
      le-leb (size (S x) P.width) 1 (omega arith)

  taken_closed : (S T : Table) (x v : ℕ) → Inside S (kept x v T) → Open S x → ⊥
  taken_closed S T x v i o =
      o.apart (kept-is x v T x o.one (i x o.one o.has_one) refl ∙ sym (kept-is x v T x o.other (i x o.other o.has_other) refl))

  -- where a variable is open not all are single
  pub singles_open : (T : Table) (x : ℕ) → Bounded P T → Open T x → singles P T < P.variables
  singles_open T x b o =
      subst (λ (n : ℕ). singles P T < n) (size-all P.variables)
      (size_less (is_single T) (λ y. true) P.variables x (λ y h. refl) (b x o.one o.has_one).0 (open_not T x b o) refl)

  pub stands-bounded : (T : Table) (p : List Node) (cs : List (ℕ × ℕ)) → Stands P (table T) p cs → Bounded P T
  stands-bounded T [] [] s = s.bounded
  stands-bounded T [] (c ∷ cs) s = absurd s
  stands-bounded T (M ∷ p) [] s = absurd s
  stands-bounded T (failed ∷ p) (c ∷ cs) s = absurd s
  stands-bounded T (table U ∷ p) (c ∷ cs) s = s.0.bounded

  takes-single : (T : Table) (p : List Node) (cs : List (ℕ × ℕ)) → Stands P (table T) p cs → length cs ≤ singles P T
  takes-single T [] [] s = omega arith
  takes-single T [] (c ∷ cs) s = absurd s
  takes-single T (M ∷ p) [] s = absurd s
  takes-single T (failed ∷ p) (c ∷ cs) s = absurd s
  takes-single T (table U ∷ p) (c ∷ cs) s =
      let o = s.1.is_open in
      let rest = takes-single U p cs s.3 in
      let b = stands-bounded U p cs s.3 in
      let less = size_less (is_single U) (is_single T) P.variables c.0 (single-inside T U (inside_trans T (kept c.0 c.1 U) U s.2 (kept-inside c.0 c.1 U)))
      (b c.0 o.one o.has_one).0 (open_not U c.0 b o) (closed_is T c.0 (taken_closed T U c.0 c.1 s.2)) in
      omega arith

  pub takes-few : (N : Node) (p : List Node) (cs : List (ℕ × ℕ)) → Stands P N p cs → length cs ≤ P.variables
  takes-few N [] [] s = omega arith
  takes-few N [] (c ∷ cs) s = absurd s
  takes-few N (M ∷ p) [] s = absurd s
  takes-few N (failed ∷ p) (c ∷ cs) s = absurd s
  takes-few N (table U ∷ p) (c ∷ cs) s =
      let rest = takes-single U p cs s.3 in
      let less = singles_open U c.0 (stands-bounded U p cs s.3) s.1.is_open in
      omega arith

  pub stands-few : (N : Node) (p : List Node) (cs : List (ℕ × ℕ)) → Stands P N p cs → Few P N cs
  stands-few failed p cs s = takes-few failed p cs s
  stands-few (table T) p cs s = takes-single T p cs s
