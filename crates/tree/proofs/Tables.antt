-- The order of tables. Assumes nothing.
use Rattle.std.proofs.Common.{◌≡◌, ℕ, Bool, true, false, not, ◌&&◌, ◌||◌, eqb, sym, refl, ⊎_elim}
use mathlib.Core.Path.{fun_ext}
use Rattle.std.proofs.lemmas.Bool.{and_parts, and_from, or_cases, or_left, or_right, not-true, not_from_false, eqb-true, eq-eqb, both_ways, cases_Bool}
use Rattle.tree.specs.Tables.{Table, Inside, join, kept, dropped}

-- tests that imply one another are the same
pub same_test : (a b : Bool) → (a ≡ true → b ≡ true) → (b ≡ true → a ≡ true) → a ≡ b
same_test true b f g = sym (f refl)
same_test false true f g = g refl
same_test false false f g = refl

pub inside_both : (S T : Table) → Inside S T → Inside T S → S ≡ T
inside_both S T f g = fun_ext (λ x. fun_ext (λ v. same_test (S x v) (T x v) (f x v) (g x v)))

pub inside_trans : (R S T : Table) → Inside R S → Inside S T → Inside R T
inside_trans R S T f g x v h = g x v (f x v h)

pub join-left : (S T : Table) → Inside S (join S T)
join-left S T x v h = or_left (S x v) (T x v) h

pub join_right : (S T : Table) → Inside T (join S T)
join_right S T x v h = or_right (S x v) (T x v) h

pub join-least : (S T U : Table) → Inside S U → Inside T U → Inside (join S T) U
join-least S T U f g x v h = ⊎_elim (f x v) (g x v) (or_cases (S x v) (T x v) h)

pub kept-inside : (x v : ℕ) (T : Table) → Inside (kept x v T) T
kept-inside x v T y u h = (and_parts (T y u) (not (eqb y x) || eqb u v) h).0

pub dropped-inside : (x v : ℕ) (T : Table) → Inside (dropped x v T) T
dropped-inside x v T y u h = (and_parts (T y u) (not (eqb y x && eqb u v)) h).0

-- inside both a table and what is kept of a larger one: inside what is kept of the first
pub kept_again : (x v : ℕ) (S T D : Table) → Inside S T → Inside S (kept x v D) → Inside S (kept x v T)
kept_again x v S T D f g y u h = and_from (T y u) (not (eqb y x) || eqb u v) (f y u h) (and_parts (D y u) (not (eqb y x) || eqb u v) (g y u h)).1

pub dropped_again : (x v : ℕ) (S T D : Table) → Inside S T → Inside S (dropped x v D) → Inside S (dropped x v T)
dropped_again x v S T D f g y u h = and_from (T y u) (not (eqb y x && eqb u v)) (f y u h) (and_parts (D y u) (not (eqb y x && eqb u v)) (g y u h)).1

pub dropped-has : (x v : ℕ) (T : Table) (y u : ℕ) → T y u ≡ true → ((y ≡ x) × (u ≡ v) → ⊥) → dropped x v T y u ≡ true
dropped-has x v T y u h ne = and_from (T y u) (not (eqb y x && eqb u v)) h (not_from_false (eqb y x && eqb u v) (⊎_elim clash (λ e. e) (cases_Bool (eqb y x && eqb u v))))
  where
    clash : (eqb y x && eqb u v) ≡ true → (eqb y x && eqb u v) ≡ false
    clash e = let q = and_parts (eqb y x) (eqb u v) e in absurd (ne (eqb-true y x q.0, eqb-true u v q.1))

pub dropped-not : (x v : ℕ) (T : Table) (y u : ℕ) → dropped x v T y u ≡ true → (y ≡ x) × (u ≡ v) → ⊥
dropped-not x v T y u h e =
    both_ways (eqb y x && eqb u v) (not-true (eqb y x && eqb u v) (and_parts (T y u) (not (eqb y x && eqb u v)) h).1) (and_from (eqb y x) (eqb u v) (eq-eqb y x e.0) (eq-eqb u v e.1))

pub kept-has : (x v : ℕ) (T : Table) (y u : ℕ) → T y u ≡ true → (y ≡ x → u ≡ v) → kept x v T y u ≡ true
kept-has x v T y u h f = and_from (T y u) (not (eqb y x) || eqb u v) h (⊎_elim same else (cases_Bool (eqb y x)))
  where
    same : eqb y x ≡ true → (not (eqb y x) || eqb u v) ≡ true
    same e = or_right (not (eqb y x)) (eqb u v) (eq-eqb u v (f (eqb-true y x e)))

    else : eqb y x ≡ false → (not (eqb y x) || eqb u v) ≡ true
    else e = or_left (not (eqb y x)) (eqb u v) (not_from_false (eqb y x) e)

pub kept-is : (x v : ℕ) (T : Table) (y u : ℕ) → kept x v T y u ≡ true → y ≡ x → u ≡ v
kept-is x v T y u h e = ⊎_elim no_way (eqb-true u v) (or_cases (not (eqb y x)) (eqb u v) (and_parts (T y u) (not (eqb y x) || eqb u v) h).1)
  where
    no_way : not (eqb y x) ≡ true → u ≡ v
    no_way k = absurd (both_ways (eqb y x) (not-true (eqb y x) k) (eq-eqb y x e))
