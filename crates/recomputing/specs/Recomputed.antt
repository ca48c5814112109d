-- What a recomputing space means: its nodes come of its base and its path. Assumes nothing.
use Rattle.std.specs.Prelude.{◌≡◌, ℕ, ◌<◌, ◌≤◌, false, cond, List, [], ◌∷◌, length, reverse, Some, None, Option, ◌==◌}
use Rattle.tree.specs.Tables.{Table}
use Rattle.tree.specs.Filter.{Problem, Lawful, Node}
use Rattle.model.specs.Values.{Value}
use Rattle.model.specs.Meaning.{means as model-means}
use Rattle.tables.specs.States.{TableState}
use Rattle.kinds.specs.Demands.{Demands}
use Rattle.kinds.specs.Problems.{problem}
use Rattle.spaces.specs.Pile.{SpaceState}
use Rattle.spaces.specs.Tops.{shown, saved_of}
use Rattle.spaces.specs.declared.base.Top.{Top}
use Rattle.recomputing.specs.Walk.{top, under, taken, Walked}
use Rattle.recomputing.specs.declared.path.Step.{Step}
use Rattle.recomputing.specs.declared.recomputing.Recomputing.{Recomputing}

-- the base: in a run it is what the one mark saved
abbrev pub first : List Table → Table
first [] = λ x v. false
first (T ∷ Ts) = T

abbrev pub base_of : Option Top → TableState → Table
base_of None t = t.domains
base_of (Some a) t = first t.saved

abbrev pub pile_of : Option Top → Problem → Table → List Step → List Node
pile_of None P B ss = []
pile_of (Some a) P B ss = top P B ss ∷ under P B ss

-- how many takes can stand over a table of the depth d
abbrev pub depth_over : ℕ → ℕ
depth_over d = cond (d == 0) 0 64

-- the steps ss, newest first
abbrev pub recomputing : Demands → Value → TableState → Option Top → List Step → SpaceState
recomputing D m t o ss = record {
  problem = problem D m t.width;
  variables = t.variables;
  base = base_of o t;
  saved = saved_of o t;
  room = t.depth;
  pile = pile_of o (problem D m t.width) (base_of o t) ss;
  choices = taken ss;
  depth = depth_over t.depth;
}

-- In a run one mark stands, and the table is the node that the path leads to.
pub record Running (D : Demands) (m : Value) (t : TableState) (a : Top) (ss : List Step) : Type 0 where
  pub variables : t.variables ≡ length m.windows
  pub room : 0 < t.depth
  pub marked : t.saved ≡ first t.saved ∷ []
  pub walked : Walked (problem D m t.width) (first t.saved) ss
  pub top_is : top (problem D m t.width) (first t.saved) ss ≡ shown a t.domains

abbrev pub Runs : Demands → Value → TableState → Option Top → List Step → Type 0
Runs D m t None ss = ss ≡ []
Runs D m t (Some a) ss = Running D m t a ss

pub record Sound (Part : Type 0) (D : Demands) (m : Value) (t : TableState) (o : Option Top) (takes : ℕ) (ss : List Step) : Type 0 where
  pub part : Part
  pub lawful : Lawful (problem D m t.width)
  pub few : length m.windows ≤ 64
  pub counted : takes ≡ length (taken ss)
  pub most : takes ≤ 64
  pub runs : Runs D m t o ss

module _ {T K : Type 0} where
  -- what the space means, by what its table means
  abbrev pub meaning : Demands → (T → TableState) → Recomputing T K → SpaceState
  meaning D means s = recomputing D (model-means s.base.model.now) (means s.base.table) s.base.top (reverse s.path)

  -- what holds of it where S holds of its table
  abbrev pub IsSound : (T → Type 0) → Demands → (T → TableState) → Recomputing T K → Type 0
  IsSound S D means s = Sound (S s.base.table) D (model-means s.base.model.now) (means s.base.table) s.base.top s.takes (reverse s.path)
