-- What a marking space means: its nodes are its table and the tables that it saved. Assumes nothing.
use Rattle.std.specs.Prelude.{◌≡◌, ℕ, suc, ◌-◌, ◌<◌, ◌≤◌, min, List, [], ◌∷◌, length, reverse, Ok, Err, Some, None, Option, Result}
use Rattle.tree.specs.Tables.{Table}
use Rattle.tree.specs.Filter.{Lawful, Node, table}
use Rattle.model.specs.Values.{Value}
use Rattle.model.specs.Meaning.{means as model-means}
use Rattle.tables.specs.States.{TableState}
use Rattle.tables.specs.declared.table.TableFault.{TableFault}
use Rattle.kinds.specs.Demands.{Demands}
use Rattle.kinds.specs.Problems.{problem}
use Rattle.spaces.specs.Pile.{SpaceState, Stands}
use Rattle.spaces.specs.Tops.{shown, stacked, saved_of}
use Rattle.spaces.specs.declared.base.Top.{Top}
use Rattle.marking.specs.declared.Marking.{Marking}

-- the oldest of D and Ts, which lie under it newest first
abbrev pub oldest : Table → List Table → Table
oldest D [] = D
oldest D (T ∷ Ts) = oldest T Ts

-- all of Ts but the oldest, as nodes
abbrev pub younger : List Table → List Node
younger [] = []
younger (T ∷ []) = []
younger (T ∷ U ∷ Ts) = table T ∷ younger (U ∷ Ts)

-- In a run the base is the table saved first, and every other saved table is a node under the top.
abbrev pub base_of : Option Top → TableState → Table
base_of None t = t.domains
base_of (Some a) t = oldest t.domains t.saved

abbrev pub pile_of : Option Top → TableState → List Node
pile_of None t = []
pile_of (Some a) t = shown a t.domains ∷ younger t.saved

-- how many takes can stand over a table of the depth d
abbrev pub depth_over : ℕ → ℕ
depth_over d = min (d - 1) 64

-- the choices cs, newest first
abbrev pub marking : Demands → Value → TableState → Option Top → List (ℕ × ℕ) → SpaceState
marking D m t o cs = record {
  problem = problem D m t.width;
  variables = t.variables;
  base = base_of o t;
  saved = saved_of o t;
  room = t.depth;
  pile = pile_of o t;
  choices = cs;
  depth = depth_over t.depth;
}

-- In a run a mark stands for each take and one for the base.
pub record Running (D : Demands) (m : Value) (t : TableState) (a : Top) (cs : List (ℕ × ℕ)) : Type 0 where
  pub variables : t.variables ≡ length m.windows
  pub marked : length t.saved ≡ suc (length cs)
  pub within : length cs < t.depth
  pub stands : Stands (problem D m t.width) (shown a t.domains) (younger t.saved) cs

abbrev pub Runs : Demands → Value → TableState → Option Top → List (ℕ × ℕ) → Type 0
Runs D m t None cs = cs ≡ []
Runs D m t (Some a) cs = Running D m t a cs

pub record Sound (Part : Type 0) (D : Demands) (m : Value) (t : TableState) (o : Option Top) (cs : List (ℕ × ℕ)) : Type 0 where
  pub part : Part
  pub lawful : Lawful (problem D m t.width)
  pub few : length m.windows ≤ 64
  pub runs : Runs D m t o cs

-- Every mark is restored, where there are k and one more.
abbrev pub Rewinds : TableState → ℕ → TableState → Result Unit TableFault → Type 0
Rewinds s k t (Ok u) = length s.saved ≡ suc k → t ≡ stacked s (oldest s.domains s.saved) []
Rewinds s k t (Err e) = length s.saved ≡ suc k → ⊥

module _ {T K : Type 0} where
  -- what the space means, by what its table means
  abbrev pub meaning : Demands → (T → TableState) → Marking T K → SpaceState
  meaning D means s = marking D (model-means s.base.model.now) (means s.base.table) s.base.top (reverse s.choices.items)

  -- what holds of it where S holds of its table
  abbrev pub IsSound : (T → Type 0) → Demands → (T → TableState) → Marking T K → Type 0
  IsSound S D means s = Sound (S s.base.table) D (model-means s.base.model.now) (means s.base.table) s.base.top (reverse s.choices.items)
