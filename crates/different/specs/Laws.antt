-- All different keeps the laws of a kind. Assumes nothing.
use Rattle.std.specs.Prelude.{◌≡◌, ℕ, ◌<◌, Bool, true, not, ◌&&◌, ◌||◌, ◌==◌, ◌≢◌, slice_index, refl}
use Rattle.std.proofs.Common.{sym, ap, ap₂, ◌∙◌, ⊎_elim}
use Rattle.std.proofs.Math.Path.{fun_ext}
use Rattle.std.proofs.lemmas.Bool.{and_parts, and_from, or_cases, not-true, not_from_false, both_ways, cases_Bool, eqb-true, eq-eqb}
use Rattle.tree.specs.Tables.{Table, Inside, join, single}
use Rattle.tree.specs.Domains.{every}
use Rattle.tree.proofs.Tables.{same_test, join-left, join_right}
use Rattle.tree.proofs.Domains.{every-from, every-to, implied, implies, clash, no_clash}
use Rattle.tree.proofs.Singles.{single-is}
use Rattle.model.specs.Values.{at_most, different}
use Rattle.kinds.specs.Laws.{Joins, Rests, Singles}
use Rattle.different.specs.Different.{lone, apart, stable, meets}
use Rattle.different.specs.Lists.{pairs-from, pairs-to, pairs-same}

-- v is the only value of x
abbrev pub Lone : Table → ℕ → ℕ → Type 0
Lone T x v = (T x v ≡ true) × ((u : ℕ) → T x u ≡ true → u ≡ v)

abbrev pub Small : ℕ → Table → Type 0
Small w T = (x v : ℕ) → T x v ≡ true → v < w

module _ (w x y : ℕ) (T : Table) where
  lone-from : (v : ℕ) → Lone T x v → lone w T x v ≡ true
  lone-from v l = and_from (T x v) (every w (λ u. not (T x u) || u == v)) l.0 (every-from w (λ u. not (T x u) || u == v) (λ u h. implies (T x u) (u == v) (λ e. eq-eqb u v (l.1 u e))))

  lone-to : (v : ℕ) → Small w T → lone w T x v ≡ true → Lone T x v
  lone-to v b e =
      let p = and_parts (T x v) (every w (λ u. not (T x u) || u == v)) e in
      (p.0, λ u h. eqb-true u v (implied (T x u) (u == v) (every-to w (λ u. not (T x u) || u == v) p.1 u (b x u h)) h))

  -- where the test finds no value that is the only one of x and in y too, the only value of x is not in y
  pub clear_to : (v : ℕ) → Small w T → every w (λ u. not (lone w T x u && T y u)) ≡ true → Lone T x v → T y v ≢ true
  clear_to v b e l h = clash (lone w T x v) (T y v) (every-to w (λ u. not (lone w T x u && T y u)) e v (b y v h)) (lone-from v l) h

  pub clear_from : Small w T → ((v : ℕ) → Lone T x v → T y v ≢ true) → every w (λ u. not (lone w T x u && T y u)) ≡ true
  clear_from b f = every-from w (λ u. not (lone w T x u && T y u)) (λ v h. no_clash (lone w T x v) (T y v) (λ e. f v (lone-to v b e)))

-- a smaller domain with a value has the only value of the larger
lone-part : (S U : Table) (x v : ℕ) → Inside S U → (u : ℕ) × (S x u ≡ true) → Lone U x v → Lone S x v
lone-part S U x v i t l = (ap (S x) (sym (l.1 t.0 (i x t.0 t.1))) ∙ t.1, λ u h. l.1 u (i x u h))

-- the test of a pair reads two domains
abbrev rows : ℕ → (ℕ → Bool) → (ℕ → Bool) → Bool
rows w d e = every w (λ v. not ((d v && every w (λ u. not (d u) || u == v)) && e v))

pub joins : Joins 3 stable
joins n w (at_most b ts) k named S T bs bt fs ft es et = refl
joins n w (different xs) k named S T bs bt fs ft es et =
    pairs-from xs (apart w (join S T)) (λ x y ax ay d. clear_from w x y (join S T) (λ z v h. ⊎_elim (λ q. (bs z v q).1) (λ q. (bt z v q).1) (or_cases (S z v) (T z v) h)) (λ v l h.
    ⊎_elim
    (clear_to w x y S v (λ z u q. (bs z u q).1) (pairs-to xs (apart w S) es x y ax ay d) (lone-part S (join S T) x v (join-left S T) (fs x (named.below x ax)) l))
    (clear_to w x y T v (λ z u q. (bt z u q).1) (pairs-to xs (apart w T) et x y ax ay d) (lone-part T (join S T) x v (join_right S T) (ft x (named.below x ax)) l))
    (or_cases (S y v) (T y v) h)))

pub rests : Rests 3 stable
rests w (at_most b ts) k S T f = refl
rests w (different xs) k S T f = pairs-same xs (apart w S) (apart w T) (λ x y ax ay d. ap₂ (rows w) (fun_ext (λ v. f x v ax)) (fun_ext (λ v. f y v ay)))

pub singles : Singles 3 stable meets
singles n w (at_most b ts) k named a bd f = refl
singles n w (different xs) k named a bd f =
    pairs-same xs (apart w (single a)) (λ x y. not (slice_index a x == slice_index a y)) (λ x y ax ay d.
    let p = f x (named.below x ax) in
    let q = f y (named.below y ay) in
    let vx = (single-is a x p.0 p.1).1 in
    let vy = (single-is a y q.0 q.1).1 in
    same_test (apart w (single a) x y) (not (slice_index a x == slice_index a y))
    (λ e. not_from_false (slice_index a x == slice_index a y) (⊎_elim
    (λ same. absurd (clear_to w x y (single a) p.0 (λ z v h. (bd z v h).1) e (p.1, λ u h. (single-is a x u h).1 ∙ sym vx)
    (ap (single a y) (vx ∙ eqb-true (slice_index a x) (slice_index a y) same ∙ sym vy) ∙ q.1)))
    (λ h. h) (cases_Bool (slice_index a x == slice_index a y))))
    (λ e. clear_from w x y (single a) (λ z v h. (bd z v h).1) (λ v l h. both_ways (slice_index a x == slice_index a y) (not-true (slice_index a x == slice_index a y) e) (eq-eqb (slice_index a x) (slice_index a y) (sym (single-is a x v l.0).1 ∙ (single-is a y v h).1)))))
