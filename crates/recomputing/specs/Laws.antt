-- The laws of a recomputing space. Assumes nothing.
use Rattle.std.specs.Prelude.{◌≡◌, ℕ, ◌<◌, ◌≤◌, Bool, true, false, cond, List, [], ◌∷◌, length, Some, None, Option, ◌==◌, refl}
use Rattle.std.proofs.Common.{sym, ap, subst, true≢false, arith}
use Rattle.std.proofs.lemmas.Bool.{ne_eqb}
use Rattle.tree.specs.Tables.{Table}
use Rattle.tree.specs.Filter.{Lawful, Bounded}
use Rattle.model.specs.Values.{Value}
use Rattle.tables.specs.States.{TableState, Within, AllWithin, Bounds}
use Rattle.kinds.specs.Demands.{Demands}
use Rattle.kinds.specs.Problems.{problem}
use Rattle.spaces.specs.Pile.{Standing, Laws}
use Rattle.spaces.proofs.Singles.{stands-few}
use Rattle.spaces.specs.declared.base.Top.{Top}
use Rattle.recomputing.specs.Walk.{top, under, taken}
use Rattle.recomputing.specs.Recomputed.{first, base_of, pile_of, depth_over, recomputing, Running, Runs, Sound}
use Rattle.recomputing.specs.Walks.{walked-stands}
use Rattle.recomputing.specs.declared.path.Step.{Step}

first-within : (n w : ℕ) (Ts : List Table) → AllWithin n w Ts → Within n w (first Ts)
first-within n w [] h x v e = absurd (true≢false (sym e))
first-within n w (T ∷ Ts) h x v e = h.0 x v e

base-within : (t : TableState) (o : Option Top) → Bounds t → Within t.variables t.width (base_of o t)
base-within t None b = b.within
base-within t (Some a) b = first-within t.variables t.width t.saved b.saved_within

depth-most : (d : ℕ) → depth_over d ≤ 64
depth-most d = go (d == 0)
  where
    go : (b : Bool) → cond b 0 64 ≤ 64
    go true = omega arith
    go false = omega arith

-- over a table that can be marked 64 takes can stand
pub depth-some : (d : ℕ) → 0 < d → depth_over d ≡ 64
depth-some d h = let ne : d ≡ 0 → ⊥ = λ e. omega arith in ap (λ (b : Bool). cond b 0 64) (ne_eqb d 0 ne)

module _ (D : Demands) (m : Value) where
  -- in a run the base is bounded
  pub base-bounded : (t : TableState) (a : Top) (ss : List Step) → Bounds t → Running D m t a ss → Bounded (problem D m t.width) (first t.saved)
  base-bounded t a ss b r = subst (λ (k : ℕ). Within k t.width (first t.saved)) r.variables (base-within t (Some a) b)

  standing : (t : TableState) (o : Option Top) (ss : List Step) → Bounds t → Lawful (problem D m t.width) → Runs D m t o ss →
      Standing (recomputing D m t o ss) (pile_of o (problem D m t.width) (base_of o t) ss)
  standing t None ss b laws r = ap taken r
  standing t (Some a) ss b laws r =
      let P = problem D m t.width in
      let B : Table = first t.saved in
      let st = walked-stands P laws B (base-bounded t a ss b r) ss r.walked in
      (record { variables = r.variables; unmarked = refl }, st, stands-few P (top P B ss) (under P B ss) (taken ss) st)

  takes-within : (t : TableState) (o : Option Top) (takes : ℕ) (ss : List Step) → takes ≡ length (taken ss) → takes ≤ 64 → Runs D m t o ss → length (taken ss) ≤ depth_over t.depth
  takes-within t None takes ss c l r = let z : length (taken ss) ≡ 0 = ap (λ (q : List Step). length (taken q)) r in omega arith
  takes-within t (Some a) takes ss c l r = let e = depth-some t.depth r.room in omega arith

  pub recomputing_laws : (Part : Type 0) (t : TableState) (o : Option Top) (takes : ℕ) (ss : List Step) → Bounds t → Sound Part D m t o takes ss → Laws (recomputing D m t o ss)
  recomputing_laws Part t o takes ss b sd = record {
    lawful = sd.lawful;
    few = sd.few;
    narrow = b.narrow;
    base = base-within t o b;
    standing = standing t o ss b sd.lawful sd.runs;
    shallow = depth-most t.depth;
    takes = takes-within t o takes ss sd.counted sd.most sd.runs;
  }
