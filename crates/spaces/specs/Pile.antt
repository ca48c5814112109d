-- What a space means, and what holds of every sound one. Assumes nothing.
use Rattle.std.specs.Prelude.{◌≡◌, ℕ, ◌≤◌, true, List, [], ◌∷◌, length, nat_le}
use Rattle.tree.specs.Tables.{Table, Inside, Choice, kept}
use Rattle.tree.specs.Domains.{size}
use Rattle.tree.specs.Filter.{Problem, Lawful, Bounded, Full, Node, failed, table}
use Rattle.tables.specs.States.{Within}

pub record SpaceState : Type 0 where
  -- what the model asks by its kinds, of values below the table's width
  pub problem : Problem
  -- the variables, the domains and the saved tables of the base, and how many marks its table can hold
  pub variables : ℕ
  pub base : Table
  pub saved : List Table
  pub room : ℕ
  -- the nodes, newest first; a run stands where there is one
  pub pile : List Node
  -- the takes that stand, newest first: each put on the node above the one where it was made
  pub choices : List (ℕ × ℕ)
  -- how many takes can stand
  pub depth : ℕ

-- the same with another pile and other choices
abbrev pub piled : SpaceState → List Node → List (ℕ × ℕ) → SpaceState
piled s p c = record { problem = s.problem; variables = s.variables; base = s.base; saved = s.saved; room = s.room; pile = p; choices = c; depth = s.depth }

-- The base has the problem's variables, and no marks stand.
pub record Ready (s : SpaceState) : Type 0 where
  pub variables : s.variables ≡ s.problem.variables
  pub unmarked : s.saved ≡ []

-- T is a table that filtering leaves: filtered again it stays as it is.
pub record Settled (P : Problem) (T : Table) : Type 0 where
  pub bounded : Bounded P T
  pub full : Full P T
  pub stable : P.stable T ≡ true

abbrev pub Settles : Problem → Node → Type 0
Settles P failed = Unit {0}
Settles P (table T) = Settled P T

-- The node lies inside D.
abbrev pub Below : Node → Table → Type 0
Below failed D = Unit {0}
Below (table T) D = Inside T D

-- N lies on the pile p with the choices cs: only the top may be failed, and each choice was made at the node under it, where its
-- variable is open; what came of it lies inside.
abbrev pub Stands : Problem → Node → List Node → List (ℕ × ℕ) → Type 0
Stands P N [] [] = Settles P N
Stands P N [] (c ∷ cs) = ⊥
Stands P N (M ∷ p) [] = ⊥
Stands P N (failed ∷ p) (c ∷ cs) = ⊥
Stands P N (table T ∷ p) (c ∷ cs) = Settles P N × Choice T c.0 c.1 × Below N (kept c.0 c.1 T) × Stands P (table T) p cs

-- How many variables have at most one value.
abbrev pub singles : Problem → Table → ℕ
singles P T = size (λ x. nat_le (size (T x) P.width) 1) P.variables

-- With k takes standing at least k variables of the top are single.
abbrev pub Few : Problem → Node → List (ℕ × ℕ) → Type 0
Few P failed cs = length cs ≤ P.variables
Few P (table T) cs = length cs ≤ singles P T

abbrev pub Standing : SpaceState → List Node → Type 0
Standing s [] = s.choices ≡ []
Standing s (N ∷ p) = Ready s × Stands s.problem N p s.choices × Few s.problem N s.choices

-- What holds of every sound space.
pub record Laws (s : SpaceState) : Type 0 where
  pub lawful : Lawful s.problem
  pub few : s.problem.variables ≤ 64
  pub narrow : s.problem.width ≤ 64
  pub base : Within s.variables s.problem.width s.base
  pub standing : Standing s s.pile
  pub shallow : s.depth ≤ 64
  pub takes : length s.choices ≤ s.depth
