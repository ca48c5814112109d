-- The laws of a marking space. Assumes nothing.
use Rattle.std.specs.Prelude.{◌≡◌, ℕ, ◌-◌, ◌≤◌, min, List, [], ◌∷◌, length, Some, None, Option, refl}
use Rattle.std.proofs.Common.{ap, arith}
use Rattle.tree.specs.Tables.{Table}
use Rattle.model.specs.Values.{Value}
use Rattle.tables.specs.States.{TableState, Within, AllWithin, Bounds}
use Rattle.kinds.specs.Demands.{Demands}
use Rattle.kinds.specs.Problems.{problem}
use Rattle.spaces.specs.Pile.{Standing, Laws}
use Rattle.spaces.specs.Tops.{shown}
use Rattle.spaces.specs.declared.base.Top.{Top}
use Rattle.spaces.proofs.Singles.{stands-few, takes-few}
use Rattle.marking.specs.Marks.{oldest, younger, base_of, pile_of, marking, Runs, Sound}

oldest-within : (n w : ℕ) (T : Table) (Ts : List Table) → Within n w T → AllWithin n w Ts → Within n w (oldest T Ts)
oldest-within n w T [] h hs = h
oldest-within n w T (U ∷ Ts) h hs = oldest-within n w U Ts hs.0 hs.1

base-within : (t : TableState) (o : Option Top) → Bounds t → Within t.variables t.width (base_of o t)
base-within t None b = b.within
base-within t (Some a) b = oldest-within t.variables t.width t.domains t.saved b.within b.saved_within

module _ (D : Demands) (m : Value) (Part : Type 0) (t : TableState) where
  standing : (o : Option Top) (cs : List (ℕ × ℕ)) → Runs D m t o cs → Standing (marking D m t o cs) (pile_of o t)
  standing None cs r = r
  standing (Some a) cs r =
      (record { variables = r.variables; unmarked = refl }, r.stands, stands-few (problem D m t.width) (shown a t.domains) (younger t.saved) cs r.stands)

  takes-within : (o : Option Top) (cs : List (ℕ × ℕ)) → length m.windows ≤ 64 → Runs D m t o cs → length cs ≤ min (t.depth - 1) 64
  takes-within None cs f r = let e : length cs ≡ 0 = ap length r in omega arith
  takes-within (Some a) cs f r =
      let w = r.within in
      let few : length cs ≤ length m.windows = takes-few (problem D m t.width) (shown a t.domains) (younger t.saved) cs r.stands in
      omega arith

  pub marking_laws : (o : Option Top) (cs : List (ℕ × ℕ)) → Bounds t → Sound Part D m t o cs → Laws (marking D m t o cs)
  marking_laws o cs b sd = record {
    lawful = sd.lawful;
    few = sd.few;
    narrow = b.narrow;
    base = base-within t o b;
    standing = standing o cs sd.runs;
    shallow = omega arith;
    takes = takes-within o cs sd.few sd.runs;
  }
