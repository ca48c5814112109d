-- What the calls of a base do. Assumes nothing.
use Rattle.std.specs.Prelude.{◌≡◌, ℕ, ◌<◌, ◌⊎◌, [], ◌∷◌, length, Ok, Err, Some, None, Option, Result}
use Rattle.tree.specs.Tables.{Table, Choice}
use Rattle.tree.specs.Filter.{Problem, NodeOf}
use Rattle.model.specs.Values.{Value}
use Rattle.tables.specs.States.{TableState, with_domains}
use Rattle.kinds.specs.Demands.{Demands}
use Rattle.kinds.specs.Problems.{problem}
use Rattle.spaces.specs.Tops.{shown, stacked}
use Rattle.spaces.specs.Calls.{Says, Unmarked, Fails}
use Rattle.spaces.specs.declared.base.Top.{Top}
use Rattle.spaces.specs.declared.base.Top.TheVariants.{Live, Failed}
use Rattle.spaces.specs.declared.space.SpaceFault.{SpaceFault}
use Rattle.spaces.specs.declared.space.SpaceFault.TheVariants.{Idle, NoChoice, Failed as HasFailed}

-- refused where the top failed, with k nodes on the pile
abbrev pub Unfailed : Option Top → ℕ → Result Unit SpaceFault → Type 0
Unfailed None k (Ok u) = Unit {0}
Unfailed None k (Err e) = ⊥
Unfailed (Some Live) k (Ok u) = Unit {0}
Unfailed (Some Live) k (Err e) = ⊥
Unfailed (Some Failed) k (Ok u) = ⊥
Unfailed (Some Failed) k (Err e) = e ≡ HasFailed k

-- A question Q answers for the table, and has no answer where the top failed, with k nodes on the pile.
abbrev pub Asked : {R : Type 0} → Option Top → ℕ → Table → (Table → Result R SpaceFault → Type 0) → Result R SpaceFault → Type 0
Asked None k T Q r = Q T r
Asked (Some Live) k T Q r = Q T r
Asked (Some Failed) k T Q r = Fails k r

-- The table T lives on top, and v is a value of the open x; or else why not, with k nodes on the pile.
abbrev pub CanTake : Option Top → ℕ → Table → ℕ → ℕ → Result Unit SpaceFault → Type 0
CanTake None k T x v (Ok u) = ⊥
CanTake None k T x v (Err e) = e ≡ Idle
CanTake (Some Failed) k T x v (Ok u) = ⊥
CanTake (Some Failed) k T x v (Err e) = e ≡ HasFailed k
CanTake (Some Live) k T x v (Ok u) = Choice T x v
CanTake (Some Live) k T x v (Err e) = (Choice T x v → ⊥) × (e ≡ NoChoice x)

-- the node of the table s lies on top
abbrev pub Lies : Problem → TableState → TableState → Option Top → Type 0
Lies P s t None = ⊥
Lies P s t (Some a) = NodeOf P s.domains (shown a t.domains) × (t ≡ with_domains s t.domains)

-- What filtering makes of s lies on top, and filtering is never refused.
abbrev pub Lands : Problem → TableState → TableState → Option Top → Result Unit SpaceFault → Type 0
Lands P s t o (Ok u) = Lies P s t o
Lands P s t o (Err e) = ⊥

-- The table has the model's variables, and no marks stand.
abbrev pub Suits : Value → TableState → Type 0
Suits m s = (s.variables ≡ length m.windows) × (s.saved ≡ [])

-- The table was marked and filtered.
pub record Started (D : Demands) (m : Value) (s t : TableState) (a : Top) : Type 0 where
  pub variables : s.variables ≡ length m.windows
  pub unmarked : s.saved ≡ []
  pub room : 0 < s.depth
  pub node : NodeOf (problem D m s.width) s.domains (shown a t.domains)
  pub others : t ≡ stacked s t.domains (s.domains ∷ [])

abbrev pub Starting : Demands → Value → TableState → TableState → Option Top → Type 0
Starting D m s t None = ⊥
Starting D m s t (Some a) = Started D m s t a

-- a run begins over s
abbrev pub Starts : Demands → Value → TableState → TableState → Option Top → Result Unit SpaceFault → Type 0
Starts D m s t o (Ok u) = Starting D m s t o
Starts D m s t o (Err e) = ((Suits m s → ⊥) × Says e 35 (length s.saved)) ⊎ (Suits m s × (s.depth ≡ 0) × Unmarked e 0)
