-- A plan is copied value by value.
use Rattle.std.proofs.Common.{◌≡◌, ℕ, ◌+◌, ◌<◌, ◌≤◌, true, eqb, ltb, List, [], ◌∷◌, ◌++◌, length, get_or, take, drop, set, Some, None, Ok, Err, Option, Result, sym, refl, ap, ap₂, ◌∙◌, subst, arith}
use Rattle.std.proofs.lemmas.List.{append_assoc, append-nil, length-take-le, take_more, take_all, drop_all, drop_more, set_at}
use Rattle.std.proofs.lemmas.Bool.{and_parts, and_from, eqb-true, eq-eqb, lt-ltb, both_ways}
use Rattle.tree.specs.Tables.{single}
use Rattle.tree.specs.Filter.{Node, table}
use Rattle.spaces.specs.Pile.{SpaceState}
use Rattle.spaces.specs.Calls.{Leasts, of_top, Lowest}
use Rattle.spaces.specs.declared.space.SpaceFault.{SpaceFault}

-- the first x values are copied
unfoldable pub CopiedTo : SpaceState → List ℕ → ℕ → List ℕ → Type 0
CopiedTo s old x new = (a : List ℕ) (below : List Node) → s.pile ≡ table (single a) ∷ below → length a ≡ s.problem.variables → s.variables ≡ s.problem.variables → length old ≡ length a → new ≡ take x a ++ drop x old

step : (a old : List ℕ) (x v : ℕ) → x < length a → length a ≤ length old → v ≡ get_or a x 0 → set (take x a ++ drop x old) x v ≡ take (x + 1) a ++ drop (x + 1) old
step a old x v l h e =
    let d : drop x old ≡ get_or old x 0 ∷ drop (x + 1) old = drop_more old x 0 (omega arith) in
    ap (λ (ys : List ℕ). set (take x a ++ ys) x v) d
    ∙ set_at (take x a) (get_or old x 0) (drop (x + 1) old) v x (length-take-le x a (omega arith))
    ∙ ap (λ (u : ℕ). take x a ++ (u ∷ drop (x + 1) old)) e
    ∙ sym (append_assoc (take x a) (get_or a x 0 ∷ []) (drop (x + 1) old))
    ∙ ap (λ (us : List ℕ). us ++ drop (x + 1) old) (sym (take_more a x 0 l))

-- what the space answers for a plan on top
plan_answer : (s : SpaceState) (x : ℕ) (r : Result (Option ℕ) SpaceFault) (a : List ℕ) (below : List Node) → s.pile ≡ table (single a) ∷ below → length a ≡ s.variables → x < length a → Leasts s x r → r ≡ Ok (Some (get_or a x 0))
plan_answer s x r a below e n l h = go r (subst (λ (p : List Node). of_top s.base p (Lowest s.variables x) r) e h)
  where
    here : single a x (get_or a x 0) ≡ true
    here = and_from _ _ (lt-ltb x (length a) l) (eq-eqb (get_or a x 0) (get_or a x 0) refl)

    go : (q : Result (Option ℕ) SpaceFault) → Lowest s.variables x (single a) q → q ≡ Ok (Some (get_or a x 0))
    go (Ok (Some v)) k = ap (λ (u : ℕ). Ok (Some u)) (eqb-true v (get_or a x 0) (and_parts (ltb x (length a)) (eqb v (get_or a x 0)) k.1.0).1)
    go (Ok None) k = absurd (both_ways _ (k.1 (get_or a x 0)) here)
    go (Err f) k = absurd (omega (arith, k.0, n, l))

pub copied_more : (s : SpaceState) (old row : List ℕ) (x v : ℕ) → CopiedTo s old x row → x < length old → Leasts s x (Ok (Some v)) → CopiedTo s old (x + 1) (set row x v)
unfolding CopiedTo
copied_more s old row x v inv l h a below e n m room =
    let q = plan_answer s x (Ok (Some v)) a below e (n ∙ sym m) (omega (arith, room)) h in
    let is : v ≡ get_or a x 0 = cc in
    ap (λ (us : List ℕ). set us x v) (inv a below e n m room) ∙ step a old x v (omega (arith, room)) (omega (arith, room)) is

pub copied_none : (s : SpaceState) (old : List ℕ) → CopiedTo s old 0 old
unfolding CopiedTo
copied_none s old a below e n m room = refl

pub copied_all : (s : SpaceState) (old row : List ℕ) (x : ℕ) → CopiedTo s old x row → x ≡ length old → (a : List ℕ) (below : List Node) → s.pile ≡ table (single a) ∷ below → length a ≡ s.problem.variables → s.variables ≡ s.problem.variables → length old ≡ length a → row ≡ a
unfolding CopiedTo
copied_all s old row x inv end a below e n m room =
    inv a below e n m room ∙ ap₂ (λ (us vs : List ℕ). us ++ vs) (take_all x a (omega (arith, end, room))) (drop_all x old (omega (arith, end))) ∙ append-nil a

-- nothing else is answered at a plan
pub never_else : (s : SpaceState) (old : List ℕ) (x : ℕ) (r : Result (Option ℕ) SpaceFault) (a : List ℕ) (below : List Node) → s.pile ≡ table (single a) ∷ below → length a ≡ s.problem.variables → s.variables ≡ s.problem.variables → length old ≡ length a → x < length old → Leasts s x r → ((v : ℕ) → r ≡ Ok (Some v) → ⊥) → ⊥
never_else s old x r a below e n m room l h other = other (get_or a x 0) (plan_answer s x r a below e (n ∙ sym m) (omega (arith, room)) h)
