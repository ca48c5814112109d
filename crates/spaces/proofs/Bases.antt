-- What the two spaces have in common. Assumes nothing.
use Rattle.std.proofs.Common.{◌≡◌, ℕ, List, [], ◌∷◌, ◌++◌, length, Some, None, Ok, Err, Option, Result, refl, sym, ap, subst, ◌∙◌, ⊎_elim, inl, inr}
use Rattle.std.specs.Prelude.{reverse}
use Rattle.std.specs.Result.{IsErrAnd}
use Rattle.std.proofs.lemmas.List.{reverse-append}
use Rattle.tree.specs.Tables.{Table, Choice}
use Rattle.tree.specs.Filter.{Problem, Node}
use Rattle.stores.specs.Rows.{Unaltered}
use Rattle.model.specs.Values.{Value}
use Rattle.tables.specs.States.{TableState}
use Rattle.kinds.specs.Demands.{Demands}
use Rattle.kinds.specs.Problems.{problem}
use Rattle.spaces.specs.Pile.{SpaceState, piled}
use Rattle.spaces.specs.Tops.{opened, shown}
use Rattle.spaces.specs.Calls.{Enters, takes, number, place}
use Rattle.spaces.specs.Bases.{CanTake, Lands, Starts}
use Rattle.spaces.specs.declared.base.Top.{Top}
use Rattle.spaces.specs.declared.base.Top.TheVariants.{Live, Failed}
use Rattle.spaces.specs.declared.space.SpaceFault.{SpaceFault}

-- what was pushed last comes first
pub reverse_push : {A : Type 0} (xs ys : List A) (c : A) → ys ≡ xs ++ c ∷ [] → reverse ys ≡ c ∷ reverse xs
reverse_push xs ys c e = ap reverse e ∙ reverse-append xs (c ∷ [])

-- a run that does not begin
pub declined : (D : Demands) (m : Value) (s t : TableState) (o : Option Top) (cs : List (ℕ × ℕ)) (d : ℕ) (u : SpaceState) (e : SpaceFault) →
    Starts D m s t o (Err e) → Enters (piled (opened (problem D m s.width) s d) [] cs) u (Err e)
declined D m s t o cs d u e h =
    ⊎_elim (λ a. inl ((λ r. a.0 (r.variables, r.unmarked)), a.1)) (λ a. inr (record { variables = a.0.0; unmarked = a.0.1 }, a.1, a.2)) h

-- filtering that is never refused leaves nothing unaltered
pub lands_well : {S : Type 0} (P : Problem) (s t : TableState) (o : Option Top) (r : Result Unit SpaceFault) (a b : S) → Lands P s t o r → Unaltered r a b
lands_well P s t o (Ok u) a b h = tt
lands_well P s t o (Err e) a b h = absurd h

-- where x can be taken at v, a table lives on top
pub can_take : (o : Option Top) (k x v : ℕ) (T : Table) → CanTake o k T x v (Ok tt) → (o ≡ Some Live) × Choice T x v
can_take None k x v T h = absurd h
can_take (Some Failed) k x v T h = absurd h
can_take (Some Live) k x v T h = (refl, h)

-- where it cannot, a space with that top and those nodes refuses to
pub cannot_take : (s u : SpaceState) (o : Option Top) (k x v : ℕ) (T : Table) (p q : List Node) (e : SpaceFault) (r : Result Unit SpaceFault) →
    (o ≡ None → p ≡ []) → ((a : Top) → o ≡ Some a → p ≡ shown a T ∷ q) → k ≡ length p → IsErrAnd r (λ y. y ≡ e) → CanTake o k T x v (Err e) → takes s x v p u r
cannot_take s u o k x v T p q e (Ok t) f g l i h = absurd i
cannot_take s u None k x v T p q e (Err y) f g l i h = subst (λ (r : List Node). takes s x v r u (Err y)) (sym (f refl)) (ap number (i ∙ h), ap place (i ∙ h))
cannot_take s u (Some Failed) k x v T p q e (Err y) f g l i h = subst (λ (r : List Node). takes s x v r u (Err y)) (sym (g Failed refl)) (ap number (i ∙ h), ap place (i ∙ h) ∙ l ∙ ap length (g Failed refl))
cannot_take s u (Some Live) k x v T p q e (Err y) f g l i h = subst (λ (r : List Node). takes s x v r u (Err y)) (sym (g Live refl)) (inl (h.0, (ap number (i ∙ h.1), ap place (i ∙ h.1))))

-- a return that no sound space comes to promises anything
pub never : {S A : Type 0} → (S → ⊥) → S → A
never h sd = absurd (h sd)
