-- Filtering in the words of nodes, after a decision and from the base. Assumes nothing.
use Rattle.std.proofs.Common.{◌≡◌, ℕ, Bool, true, false, not, ◌&&◌, ◌||◌, eqb, ◌≢◌, List, [], ◌∷◌, length, Some, Ok, sym, refl, ap, ◌∙◌, subst, arith}
use Rattle.std.proofs.lemmas.Bool.{ne_eqb}
use Rattle.tree.specs.Tables.{Table, kept, dropped}
use Rattle.tree.specs.Filter.{NodeOf}
use Rattle.model.specs.Values.{Value}
use Rattle.tables.specs.States.{TableState}
use Rattle.tables.specs.Calls.{Restores}
use Rattle.kinds.specs.Demands.{Demands}
use Rattle.kinds.specs.Problems.{problem}
use Rattle.filtering.specs.Filters.{Begins}
use Rattle.filtering.specs.declared.filter.Start.TheVariants.{Changed}
use Rattle.spaces.specs.Tops.{shown, stacked}
use Rattle.spaces.specs.Bases.{Lands}
use Rattle.spaces.specs.declared.base.Top.{Top}

and_true : (b : Bool) → (b && true) ≡ b
and_true true = refl
and_true false = refl

-- a decision on x leaves the other domains
kept-others : (T : Table) (x v y u : ℕ) → y ≢ x → kept x v T y u ≡ T y u
kept-others T x v y u ne = ap (λ (b : Bool). T y u && (not b || eqb u v)) (ne_eqb y x ne) ∙ and_true (T y u)

dropped-others : (T : Table) (x v y u : ℕ) → y ≢ x → dropped x v T y u ≡ T y u
dropped-others T x v y u ne = ap (λ (b : Bool). T y u && not (b && eqb u v)) (ne_eqb y x ne) ∙ and_true (T y u)

pub none_of : (Ts : List Table) → length Ts ≡ 0 → Ts ≡ []
none_of [] e = refl
none_of (T ∷ Ts) e = let z : ⊥ = omega arith in absurd z

module _ (D : Demands) (m : Value) where
  -- t3 comes of filtering t2, which is t with the domains E and the saved tables Ts
  pub filtered : (t t2 t3 : TableState) (a : Top) (E : Table) (Ts : List Table) → t2 ≡ stacked t E Ts → Lands (problem D m t2.width) t2 t3 (Some a) (Ok tt) →
      NodeOf (problem D m t.width) E (shown a t3.domains) × (t3 ≡ stacked t t3.domains Ts)
  filtered t t2 t3 a E Ts e f = subst (λ (s : TableState). Lands (problem D m s.width) s t3 (Some a) (Ok tt)) e f

  -- only the records that name x have to wait where x was decided at a stable table
  pub begins_kept : (t t2 : TableState) (T : Table) (Ts : List Table) (x v : ℕ) → t2 ≡ stacked t (kept x v T) Ts → (problem D m t.width).stable T ≡ true →
      Begins (problem D m t2.width) (Changed x) t2.domains
  begins_kept t t2 T Ts x v e h =
      subst (λ (s : TableState). Begins (problem D m s.width) (Changed x) s.domains) (sym e) (T, h, kept-others T x v)

  pub begins_dropped : (t t2 : TableState) (T : Table) (Ts : List Table) (x v : ℕ) → t2 ≡ stacked t (dropped x v T) Ts → (problem D m t.width).stable T ≡ true →
      Begins (problem D m t2.width) (Changed x) t2.domains
  begins_dropped t t2 T Ts x v e h =
      subst (λ (s : TableState). Begins (problem D m s.width) (Changed x) s.domains) (sym e) (T, h, dropped-others T x v)

-- a restore gives back the table saved last
pub restored : (s t : TableState) → Restores s t (Ok tt) → t ≡ stacked s t.domains t.saved
restored s t h =
    let a : t.variables ≡ s.variables = h.1 in
    let b : t.width ≡ s.width = h.2 in
    let c : t.depth ≡ s.depth = h.3 in
    λ i. record { variables = a i; width = b i; domains = t.domains; saved = t.saved; depth = c i }
