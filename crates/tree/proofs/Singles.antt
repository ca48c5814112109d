-- Tables of single values. Assumes nothing.
use Rattle.std.proofs.Common.{◌≡◌, ℕ, ◌<◌, true, eqb, ltb, List, length, get_or, sym, refl, ap, ◌∙◌, ⊎_elim, arith}
use Rattle.std.proofs.lemmas.Bool.{and_parts, and_from, eqb-true, eq-eqb, ltb-true, lt-ltb, cases_eq, cases_lt}
use Rattle.std.proofs.lemmas.List.{ext_get_or}
use Rattle.std.proofs.lemmas.List.FromFn.{length-map-range_with_len, get_or-map-range_with_len}
use Rattle.tree.specs.Tables.{Table, Inside, Open, single}
use Rattle.tree.specs.Filter.{Problem, Bounded, Full, From}
use Rattle.tree.specs.Domains.{greatest}
use Rattle.tree.specs.Find.{values}
use Rattle.tree.proofs.Tables.{inside_both}
use Rattle.tree.proofs.Domains.{greatest-top}

pub single-has : (a : List ℕ) (x v : ℕ) → x < length a → v ≡ get_or a x 0 → single a x v ≡ true
single-has a x v h e = and_from (ltb x (length a)) (eqb v (get_or a x 0)) (lt-ltb x (length a) h) (eq-eqb v (get_or a x 0) e)

pub single-is : (a : List ℕ) (x v : ℕ) → single a x v ≡ true → (x < length a) × (v ≡ get_or a x 0)
single-is a x v h = let p = and_parts (ltb x (length a)) (eqb v (get_or a x 0)) h in (ltb-true x (length a) p.0, eqb-true v (get_or a x 0) p.1)

pub single_closed : (a : List ℕ) (x : ℕ) → Open (single a) x → ⊥
single_closed a x o = o.apart ((single-is a x o.one o.has_one).1 ∙ sym (single-is a x o.other o.has_other).1)

pub single-full : (P : Problem) (a : List ℕ) → length a ≡ P.variables → Full P (single a)
single-full P a e x h = (get_or a x 0, single-has a x (get_or a x 0) (omega arith) refl)

pub single-length : (P : Problem) (a : List ℕ) → Bounded P (single a) → Full P (single a) → length a ≡ P.variables
single-length P a b f = ⊎_elim short (λ h. ⊎_elim long (λ k. omega arith) (cases_lt P.variables (length a))) (cases_lt (length a) P.variables)
  where
    short : length a < P.variables → length a ≡ P.variables
    short h = let t = f (length a) h in let i = (single-is a (length a) t.0 t.1).0 in omega arith

    long : P.variables < length a → length a ≡ P.variables
    long h = let n = P.variables in let i = (b n (get_or a n 0) (single-has a n (get_or a n 0) h refl)).0 in omega arith

pub from-inside : (P : Problem) (T : Table) (a : List ℕ) → From P T a → Inside (single a) T
from-inside P T a f x v h =
    let i = single-is a x v h in
    let e = f.long in
    ap (T x) i.1 ∙ f.left x (omega arith)

pub inside-from : (P : Problem) (T : Table) (a : List ℕ) → length a ≡ P.variables → Inside (single a) T → From P T a
inside-from P T a e i = record { long = e; left = λ x h. i x (get_or a x 0) (single-has a x (get_or a x 0) (omega arith) refl) }

pub from_wider : (P : Problem) (S T : Table) (a : List ℕ) → Inside S T → From P S a → From P T a
from_wider P S T a i f = record { long = f.long; left = λ x h. i x (get_or a x 0) (f.left x h) }

pub single-inside : (a b : List ℕ) → length a ≡ length b → Inside (single a) (single b) → a ≡ b
single-inside a b e i = ext_get_or 0 a b e (λ x h. (single-is b x (get_or a x 0) (i x (get_or a x 0) (single-has a x (get_or a x 0) h refl))).1)

-- a full table without an open variable is one of single values
pub closed_single : (P : Problem) (T : Table) → Bounded P T → Full P T → ((x : ℕ) → x < P.variables → Open T x → ⊥) → T ≡ single (values P.variables P.width T)
closed_single P T b f c = inside_both T (single a) to from
  where
    n : ℕ
    n = P.variables

    w : ℕ
    w = P.width

    a : List ℕ
    a = values n w T

    long : length a ≡ n
    long = length-map-range_with_len (λ x. greatest (T x) w) 0 n

    read : (x : ℕ) → x < n → get_or a x 0 ≡ greatest (T x) w
    read x h = get_or-map-range_with_len (λ y. greatest (T y) w) 0 n x x 0 h (omega arith)

    has : (x : ℕ) → x < n → T x (greatest (T x) w) ≡ true
    has x h = let t = f x h in (greatest-top (T x) w t.0 (b x t.0 t.1).1 t.1).0

    to : Inside T (single a)
    to x v h =
        let k = (b x v h).0 in
        single-has a x v (omega (arith, long)) (⊎_elim (λ e. e ∙ sym (read x k)) (λ ne. absurd (c x k (record { one = v; other = greatest (T x) w; apart = ne; has_one = h; has_other = has x k }))) (cases_eq v (greatest (T x) w)))

    from : Inside (single a) T
    from x v h =
        let i = single-is a x v h in
        let k : x < n = omega (arith, long, i.0) in
        ap (T x) (i.1 ∙ read x k) ∙ has x k
