-- What reading and writing a cell does to the domains. Assumes nothing.
use Rattle.std.proofs.Common.{◌≡◌, ℕ, zero, suc, ◌^◌, ◌<◌, ◌≤◌, Bool, true, false, cond, not, ◌&&◌, ◌||◌, eqb, ltb, List, length, get_or, set, sym, refl, ap, ◌∙◌, subst, ap₂, ⊎_elim}
use mathlib.Core.Path.{fun_ext}
use Rattle.std.proofs.lemmas.List.{get_or-set_same, get_or-set_other, length-set}
use Rattle.std.proofs.lemmas.Bool.{both_ways, cases_Bool, cases_eq, cases_lt, eq-eqb, ne_eqb, eqb-true, lt-ltb, le-ltb, and_from, and_right, not_from_false}
use Rattle.bits.specs.Bit.{has, counted}
use Rattle.bits.proofs.Digits.{has-past}
use Rattle.stores.specs.Rows.{Rows}
use Rattle.tree.specs.Tables.{Table, kept, dropped}
use Rattle.tree.specs.Domains.{has_some, size}
use Rattle.tree.proofs.Domains.{has_some_to, implies, no_clash}
use Rattle.tables.specs.States.{with_domains}
use Rattle.tables.specs.Words.{digits, domains_of, meaning, Room}

-- ---- one cell

-- the cell of x has the members that the domain of x has
pub cell_is_domain : (n w : ℕ) (cells : List ℕ) (x c : ℕ) → x < n → c < 2 ^ w → c ≡ get_or cells x 0 → has c ≡ domains_of n w cells x
cell_is_domain n w cells x c l f e = fun_ext (λ v. ⊎_elim
    (λ m. ap (λ k. has k v) e ∙ ap (λ b. b && has (get_or cells x 0) v) (sym (and_from (ltb x n) (ltb v w) (lt-ltb x n l) (lt-ltb v w m))))
    (λ m. has-past w c v f m ∙ ap (λ b. b && has (get_or cells x 0) v) (sym (and_right (ltb x n) (ltb v w) (le-ltb v w m))))
    (cases_lt v w))

-- the two ways to count the members below k
pub counted_size : (d : ℕ → Bool) (k : ℕ) → counted d k ≡ size d k
unfolding counted
counted_size d zero = refl
counted_size d (suc k) = ap (λ n. cond (d k) (suc n) n) (counted_size d k)

pub none_has_some : (d : ℕ → Bool) (w : ℕ) → ((u : ℕ) → d u ≡ false) → false ≡ has_some d w
none_has_some d w f = ⊎_elim
    (λ h. let p = has_some_to d w h in absurd (both_ways (d p.0) (f p.0) p.1))
    (λ h. sym h) (cases_Bool (has_some d w))

-- ---- writing one cell

and_true : (b : Bool) → b ≡ (b && true)
and_true true = refl
and_true false = refl

and_assoc : (a b c : Bool) → (a && (b && c)) ≡ ((a && b) && c)
and_assoc true b c = refl
and_assoc false b c = refl

-- where the new cell has of the old one what passes f, so has the table
module _ (n w : ℕ) (cells : List ℕ) (x c : ℕ) (l : x < length cells) where
  filtered_cell : (f : ℕ → ℕ → Bool) → ((u : ℕ) → has c u ≡ (has (get_or cells x 0) u && f x u)) → ((y u : ℕ) → (y ≡ x → ⊥) → f y u ≡ true)
      → domains_of n w (set cells x c) ≡ (λ y u. domains_of n w cells y u && f y u)
  filtered_cell f here else = fun_ext (λ y. fun_ext (λ u.
      let inside = ltb y n && ltb u w in
      ⊎_elim
      (λ q. ap (λ b. inside && b) (ap (λ z. has (get_or (set cells x c) z 0) u) q ∙ ap (λ k. has k u) (get_or-set_same cells x c 0 l) ∙ here u ∙ ap (λ z. has (get_or cells z 0) u && f z u) (sym q))
      ∙ and_assoc inside (has (get_or cells y 0) u) (f y u))
      (λ d. ap (λ b. inside && b) (ap (λ k. has k u) (get_or-set_other cells x y c 0 d))
      ∙ and_true (inside && has (get_or cells y 0) u) ∙ ap (λ b. (inside && has (get_or cells y 0) u) && b) (sym (else y u d)))
      (cases_eq y x)))

  pub dropped_cell : (v : ℕ) → ((u : ℕ) → has c u ≡ (has (get_or cells x 0) u && not (eqb u v))) → domains_of n w (set cells x c) ≡ dropped x v (domains_of n w cells)
  dropped_cell v here = filtered_cell (λ y u. not (eqb y x && eqb u v))
      (λ u. here u ∙ ap (λ b. has (get_or cells x 0) u && not (b && eqb u v)) (sym (eq-eqb x x refl)))
      (λ y u d. ap (λ b. not (b && eqb u v)) (ne_eqb y x d))

  pub kept_cell : (v : ℕ) → ((u : ℕ) → has c u ≡ (has (get_or cells x 0) u && eqb u v)) → domains_of n w (set cells x c) ≡ kept x v (domains_of n w cells)
  kept_cell v here = filtered_cell (λ y u. not (eqb y x) || eqb u v)
      (λ u. here u ∙ ap (λ b. has (get_or cells x 0) u && (not b || eqb u v)) (sym (eq-eqb x x refl)))
      (λ y u d. ap (λ b. not b || eqb u v) (ne_eqb y x d))

-- ---- what leaves a table as it is

passed_all : (T : Table) (f : ℕ → ℕ → Bool) → ((y u : ℕ) → T y u ≡ true → f y u ≡ true) → T ≡ (λ y u. T y u && f y u)
passed_all T f g = fun_ext (λ y. fun_ext (λ u. by (T y u) (f y u) (g y u)))
  where
    by : (a b : Bool) → (a ≡ true → b ≡ true) → a ≡ (a && b)
    by true b h = sym (h refl)
    by false b h = refl

-- dropping an absent value
pub dropped_absent : (x v : ℕ) (T : Table) → T x v ≡ false → T ≡ dropped x v T
dropped_absent x v T e = passed_all T (λ y u. not (eqb y x && eqb u v))
    (λ y u h. no_clash (eqb y x) (eqb u v) (λ p q. both_ways (T x v) e (ap₂ T (sym (eqb-true y x p)) (sym (eqb-true u v q)) ∙ h)))

-- keeping v where nothing else was there
pub kept_alone : (x v : ℕ) (T : Table) → ((u : ℕ) → (T x u && not (eqb u v)) ≡ false) → T ≡ kept x v T
kept_alone x v T f = passed_all T (λ y u. not (eqb y x) || eqb u v)
    (λ y u h. implies (eqb y x) (eqb u v) (λ p. ⊎_elim (λ q. q)
    (λ q. absurd (both_ways (T x u && not (eqb u v)) (f u) (and_from (T x u) (not (eqb u v)) (ap (λ z. T z u) (sym (eqb-true y x p)) ∙ h) (not_from_false (eqb u v) q))))
    (cases_Bool (eqb u v))))

-- ---- the whole state

pub meaning_written : (n : ℕ) (r t : Rows) (x c : ℕ) (T : Table) → t ≡ record { row = set r.row x c; saved = r.saved; depth = r.depth }
    → domains_of n digits (set r.row x c) ≡ T → meaning n t ≡ with_domains (meaning n r) T
meaning_written n r t x c T e q = ap (meaning n) e ∙ ap (with_domains (meaning n r)) q

pub room_written : (n : ℕ) (r t : Rows) (x c : ℕ) → t ≡ record { row = set r.row x c; saved = r.saved; depth = r.depth } → Room n r → Room n t
room_written n r t x c e room =
    record { few = room.few; cells = subst (λ k. n ≤ k) (sym (ap (λ (z : Rows). length z.row) e ∙ length-set r.row x c)) room.cells }
