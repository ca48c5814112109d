-- What a rule answers at a space. Assumes nothing.
use Rattle.std.specs.Prelude.{◌≡◌, ℕ, ◌<◌, Bool, true, false, cond, List, [], ◌∷◌, Some, None, Option, Result, ◌==◌, nat_lt}
use Rattle.tree.specs.Tables.{Table}
use Rattle.tree.specs.Filter.{Node, failed, table}
use Rattle.tree.specs.Search.{Rule}
use Rattle.tree.specs.Domains.{size}
use Rattle.tree.specs.Find.{is_full}
use Rattle.tree.specs.Rules.{lowest, smallest, first, small}
use Rattle.spaces.specs.Pile.{SpaceState}
use Rattle.spaces.specs.Calls.{Leasts, Greatests}
use Rattle.spaces.specs.declared.space.SpaceFault.{SpaceFault}
use Rattle.search.specs.declared.rule.Preference.{Preference}
use Rattle.search.specs.declared.rule.Preference.TheVariants.{Lowest, Smallest}

-- At the top of the pile, or at the base where there is none. A failed node has no answer.
abbrev pub at_top : {A : Type 0} → (Table → Option A) → Table → List Node → Option A
at_top R base [] = R base
at_top R base (failed ∷ p) = None
at_top R base (table T ∷ p) = R T

-- The rule for the space's variables and values.
abbrev pub ruling : SpaceState → (ℕ → ℕ → Rule) → Rule
ruling s picks = picks s.problem.variables s.problem.width

abbrev pub chosen : SpaceState → (ℕ → ℕ → Rule) → Option (ℕ × ℕ)
chosen s picks = at_top (ruling s picks) s.base s.pile

-- The open variable that is preferred of the k from x on.
abbrev pub among : Preference → ℕ → Table → ℕ → ℕ → Option ℕ
among Lowest = lowest
among Smallest = smallest

-- The rule of a preference.
abbrev pub rule : Preference → ℕ → ℕ → Rule
rule Lowest = first
rule Smallest = small

-- The end of a domain that is tried first: the least value with the lowest variable, the greatest with the smallest.
abbrev pub Tried : SpaceState → Preference → ℕ → Result (Option ℕ) SpaceFault → Type 0
Tried s Lowest x r = Leasts s x r
Tried s Smallest x r = Greatests s x r

-- The preferred open variable of n, none where a domain is empty.
abbrev pub best_of : Preference → ℕ → ℕ → Table → Option ℕ
best_of p n w T = cond (is_full n w T) (among p w T 0 n) None

abbrev pub best : SpaceState → Preference → Option ℕ
best s p = at_top (best_of p s.problem.variables s.problem.width) s.base s.pile

-- A variable is open on top.
abbrev pub open_at : ℕ → Table → Option ℕ → Type 0
open_at w T None = Unit {0}
open_at w T (Some x) = 1 < size (T x) w

abbrev pub open_on : ℕ → Table → List Node → Option ℕ → Type 0
open_on w base [] o = open_at w base o
open_on w base (failed ∷ p) o = o ≡ None
open_on w base (table T ∷ p) o = open_at w T o

-- r is the preferred variable, and open.
abbrev pub Prefers : SpaceState → Preference → Option ℕ → Type 0
Prefers s p r = (r ≡ best s p) × open_on s.problem.width s.base s.pile r

-- An open variable of size k is preferred to a lower one b with its size.
abbrev pub replaces : Preference → Option (ℕ × ℕ) → ℕ → Bool
replaces p None k = true
replaces Lowest (Some b) k = false
replaces Smallest (Some b) k = nat_lt k b.1

-- No variable above an open one of size k is preferred to it: in a run, where no domain is empty, the lowest stays, and one of two
-- values stays the smallest.
abbrev pub settles : Preference → Bool → ℕ → Bool
settles p false k = false
settles Lowest true k = true
settles Smallest true k = k == 2
