-- The table that a space holds: the node that it shows, and the space that is opened over it. Assumes nothing.
use Rattle.std.specs.Prelude.{ℕ, List, [], ◌∷◌, Some, None, Option}
use Rattle.tree.specs.Tables.{Table}
use Rattle.tree.specs.Filter.{Problem, Node, failed, table}
use Rattle.tables.specs.States.{TableState}
use Rattle.spaces.specs.Pile.{SpaceState}
use Rattle.spaces.specs.declared.base.Top.{Top}
use Rattle.spaces.specs.declared.base.Top.TheVariants.{Live, Failed}

-- a filtered table, or what is left of a table that failed
abbrev pub shown : Top → Table → Node
shown Live T = table T
shown Failed T = failed

-- the top of the pile, or none without a run
abbrev pub topmost : Option Top → Table → List Node
topmost None T = []
topmost (Some a) T = shown a T ∷ []

-- the same table with other domains and other saved tables
abbrev pub stacked : TableState → Table → List Table → TableState
stacked s T Ts = record { variables = s.variables; width = s.width; domains = T; saved = Ts; depth = s.depth }

-- the tables that were saved before the run
abbrev pub saved_of : Option Top → TableState → List Table
saved_of None t = t.saved
saved_of (Some a) t = []

-- a space without a run, over the table t
abbrev pub opened : Problem → TableState → ℕ → SpaceState
opened P t d = record { problem = P; variables = t.variables; base = t.domains; saved = t.saved; room = t.depth; pile = []; choices = []; depth = d }

-- the table that is the base of a space
abbrev pub base_table : SpaceState → TableState
base_table s = record { variables = s.variables; width = s.problem.width; domains = s.base; saved = s.saved; depth = s.room }
