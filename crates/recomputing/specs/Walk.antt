-- A path of steps, listed newest first, and the nodes along it. Assumes nothing.
use Rattle.std.specs.Prelude.{◌≡◌, ℕ, ◌<◌, Bool, List, [], ◌∷◌, Some, None, Ok, Err, Option, Result}
use Rattle.tree.specs.Tables.{Table, Choice, kept, dropped}
use Rattle.tree.specs.Filter.{Problem, Node, failed, table}
use Rattle.tree.specs.Find.{node}
use Rattle.tables.specs.States.{TableState, with_domains}
use Rattle.tables.specs.declared.table.TableFault.{TableFault}
use Rattle.recomputing.specs.declared.path.Step.{Step}
use Rattle.recomputing.specs.declared.path.Step.TheVariants.{Take, Drop}

-- what a step does to a table, and what steps do one after the other
abbrev pub decide : Step → Table → Table
decide (Take x v) T = kept x v T
decide (Drop x v) T = dropped x v T

abbrev pub replayed : Table → List Step → Table
replayed B [] = B
replayed B (s ∷ ss) = decide s (replayed B ss)

-- the node that comes of a step at a node
abbrev pub after : Problem → Step → Node → Node
after P s failed = failed
after P s (table T) = node P (decide s T)

-- the node that the steps lead to
abbrev pub top : Problem → Table → List Step → Node
top P B [] = node P B
top P B (s ∷ ss) = after P s (top P B ss)

-- the nodes under it: those where a take stands
abbrev pub under : Problem → Table → List Step → List Node
under P B [] = []
under P B (Take x v ∷ ss) = top P B ss ∷ under P B ss
under P B (Drop x v ∷ ss) = under P B ss

-- the takes among the steps
abbrev pub taken : List Step → List (ℕ × ℕ)
taken [] = []
taken (Take x v ∷ ss) = (x, v) ∷ taken ss
taken (Drop x v ∷ ss) = taken ss

abbrev pub variable : Step → ℕ
variable (Take x v) = x
variable (Drop x v) = x

abbrev pub value : Step → ℕ
value (Take x v) = v
value (Drop x v) = v

-- a step is made at a filtered table, on an open variable and one of its values
abbrev pub Made : Node → Step → Type 0
Made failed s = ⊥
Made (table T) s = Choice T (variable s) (value s)

-- each step was made at the node that those before it lead to
abbrev pub Walked : Problem → Table → List Step → Type 0
Walked P B [] = Unit {0}
Walked P B (s ∷ ss) = Made (top P B ss) s × Walked P B ss

-- all steps are on the n variables and on values below w
abbrev pub Ranged : ℕ → ℕ → List Step → Type 0
Ranged n w [] = Unit {0}
Ranged n w (s ∷ ss) = ((variable s < n) × (value s < w)) × Ranged n w ss

-- a step made again on a table, and the steps of a path, newest first: never refused where their variables and values are there
abbrev pub Acts : TableState → Step → TableState → Result Bool TableFault → Type 0
Acts s step t (Ok b) = t ≡ with_domains s (decide step s.domains)
Acts s step t (Err e) = variable step < s.variables → value step < s.width → ⊥

abbrev pub Replays : TableState → List Step → TableState → Result Unit TableFault → Type 0
Replays s ss t (Ok u) = t ≡ with_domains s (replayed s.domains ss)
Replays s ss t (Err e) = Ranged s.variables s.width ss → ⊥

-- the newest take, and the steps before it
abbrev pub last_take : List Step → Option (List Step × (ℕ × ℕ))
last_take [] = None
last_take (Take x v ∷ ss) = Some (ss, (x, v))
last_take (Drop x v ∷ ss) = last_take ss

-- the newest take of the steps ss was taken off with those after it, and rs are left
abbrev pub Unwinds : List Step → List Step → Option (ℕ × ℕ) → Type 0
Unwinds ss rs (Some c) = last_take ss ≡ Some (rs, c)
Unwinds ss rs None = last_take ss ≡ None
