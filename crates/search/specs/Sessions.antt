-- What each call of a search does. Assumes nothing.
use Rattle.std.specs.Prelude.{◌≡◌, ℕ, ◌<◌, ◌≤◌, Bool, true, false, cond, ◌⊎◌, List, [], ◌∷◌, ◌++◌, length, drop, Some, None, Ok, Err, Option, Result}
use Rattle.tree.specs.Tables.{single}
use Rattle.tree.specs.Filter.{Problem, Node, table}
use Rattle.tree.specs.Find.{visit}
use Rattle.tree.specs.Search.{Rule, Visit, is_failed, is_open, is_plan}
use Rattle.tree.specs.Budget.{Answer as Found, planned, done, spent, scan, left_by}
use Rattle.spaces.specs.Pile.{SpaceState, piled}
use Rattle.spaces.specs.Calls.{number as space-number, place as space-place, Enters}
use Rattle.spaces.specs.declared.space.SpaceFault.{SpaceFault}
use Rattle.spaces.specs.declared.space.State.{State}
use Rattle.spaces.specs.declared.space.State.TheVariants.{Open, Plan, Failed}
use Rattle.search.specs.Choosing.{ruling}
use Rattle.search.specs.Remaining.{remaining, Sitting}
use Rattle.search.specs.declared.search.Search.{Search}
use Rattle.search.specs.declared.search.Session.{Session}
use Rattle.search.specs.declared.search.Session.TheVariants.{Closed, Fresh, Visited, Left}
use Rattle.search.specs.declared.search.Ticket.{Ticket}
use Rattle.search.specs.declared.search.Answer.{Answer}
use Rattle.search.specs.declared.search.Answer.TheVariants.{Plan as A-plan, Done, Spent}
use Rattle.search.specs.declared.search.SearchFault.{SearchFault}
use Rattle.search.specs.declared.search.SearchFault.TheVariants.{Busy, Shallow, Idle, Row, Budget, Space}

-- The published number of a fault, and its place.
abbrev pub number : SearchFault → ℕ
number Busy = 42
number (Shallow d) = 41
number Idle = 43
number (Row k) = 44
number Budget = 45
number (Space f) = space-number f

abbrev pub place : SearchFault → ℕ
place Busy = 0
place (Shallow d) = d
place Idle = 0
place (Row k) = k
place Budget = 0
place (Space f) = space-place f

abbrev pub Says : SearchFault → ℕ → ℕ → Type 0
Says e n p = (number e ≡ n) × (place e ≡ p)

-- Whether a session is open, and whether its top is still to visit.
abbrev pub has_session : Session → Bool
has_session Closed = false
has_session Fresh = true
has_session Visited = true
has_session Left = false

abbrev pub has_unvisited : Session → Bool
has_unvisited Closed = false
has_unvisited Fresh = true
has_unvisited Visited = false
has_unvisited Left = true

-- What a search means: whether a session is open, whether the top is still to visit, the space, and the rule for its variables.
pub record SearchState : Type 0 where
  pub session : Bool
  pub fresh : Bool
  pub space : SpaceState
  pub rule : Rule

abbrev pub view : {P R : Type 0} → (P → SpaceState) → (R → ℕ → ℕ → Rule) → Search P R → SearchState
view means picks s = record { session = has_session s.session; fresh = has_unvisited s.session; space = means s.space; rule = ruling (means s.space) (picks s.rule) }

-- The space and the rule where no session is open, and the search itself where one is.
abbrev pub parts : {P R : Type 0} → Search P R → Result (P × R) (Search P R)
parts s = cond (has_session s.session) (Err s) (Ok (s.space, s.rule))

-- The number of variables, and the nodes that are still to visit.
abbrev pub variables : SearchState → ℕ
variables s = s.space.problem.variables

abbrev pub rest : SearchState → List Visit
rest s = remaining s.space.problem s.rule s.fresh s.space.pile s.space.choices

-- What holds of a search that came from opening and calls.
pub record Sits (s : SearchState) : Type 0 where
  pub way : Sitting s.space.problem s.rule s.session s.space.pile s.space.choices
  pub deep : s.session ≡ true → variables s ≤ s.space.depth
  pub ready : s.session ≡ true → s.space.variables ≡ variables s

pub record Sound {P R : Type 0} (means : P → SpaceState) (sound : P → Type 0) (picks : R → ℕ → ℕ → Rule) (s : Search P R) : Type 0 where
  pub part : sound s.space
  pub sits : Sits (view means picks s)

-- begin

pub record Begun (s t : SearchState) : Type 0 where
  pub idle : s.session ≡ false
  pub deep : variables s ≤ s.space.depth
  pub enters : Enters s.space t.space (Ok tt)
  pub opened : t ≡ record { session = true; fresh = true; space = t.space; rule = s.rule }

-- A session is open; or the space is too shallow; or the space refuses to be entered, and its fault is passed on whole.
abbrev pub NotBegun : SearchState → SearchFault → Type 0
NotBegun s e =
    ((s.session ≡ true) × Says e 42 0) ⊎
    (((s.session ≡ false) × (s.space.depth < variables s) × Says e 41 s.space.depth) ⊎
    ((s.session ≡ false) × (variables s ≤ s.space.depth) × ((f : SpaceFault) × (e ≡ Space f) × Enters s.space s.space (Err f))))

module _ {S : Type 0} (view : S → SearchState) where
  abbrev pub Begins : S → Result Ticket SearchFault → S → Type 0
  Begins a (Ok k) b = Begun (view a) (view b)
  Begins a (Err e) b = (b ≡ a) × NotBegun (view a) e

  -- close

  abbrev pub Closes : S → Result (Unit {0}) SearchFault → S → Type 0
  Closes a (Ok u) b = ((view a).session ≡ true) × (view b ≡ record { session = false; fresh = (view a).fresh; space = piled (view a).space [] []; rule = (view a).rule })
  Closes a (Err e) b = (b ≡ a) × ((view a).session ≡ false) × Says e 43 0

-- next

-- How an answer is told: its kind and its count.
abbrev pub told : Found → Answer
told (planned a c) = A-plan c
told (done c) = Done c
told (spent c) = Spent c

-- The row after an answer: a plan stands at its front, and all else is as it was.
abbrev pub row_after : Found → List ℕ → List ℕ
row_after (planned a c) old = a ++ drop (length a) old
row_after (done c) old = old
row_after (spent c) old = old

pub record Went (s : SearchState) (budget : ℕ) (old : List ℕ) (r : Answer) (t : SearchState) (new : List ℕ) : Type 0 where
  pub open_session : s.session ≡ true
  pub room : variables s ≤ length old
  pub some : 0 < budget
  pub answer : r ≡ told (scan (rest s) budget)
  pub row : new ≡ row_after (scan (rest s) budget) old
  pub left : rest t ≡ left_by (scan (rest s) budget) (rest s)
  pub session : t.session ≡ true
  pub space : t.space ≡ piled s.space t.space.pile t.space.choices
  pub rule : t.rule ≡ s.rule

-- No session is open; or the row is shorter than a plan; or the budget is 0.
abbrev pub NotGone : SearchState → ℕ → List ℕ → SearchFault → Type 0
NotGone s budget old e =
    ((s.session ≡ false) × Says e 43 0) ⊎
    (((s.session ≡ true) × (length old < variables s) × Says e 44 (length old)) ⊎
    ((s.session ≡ true) × (variables s ≤ length old) × (budget ≡ 0) × Says e 45 0))

abbrev pub Nexts : {S : Type 0} → (S → SearchState) → S → ℕ → List ℕ → Result Answer SearchFault → S → List ℕ → Type 0
Nexts view a budget old (Ok r) b new = Went (view a) budget old r (view b) new
Nexts view a budget old (Err e) b new = (b ≡ a) × (new ≡ old) × NotGone (view a) budget old e

-- One visit more: the state of the node visited, or none where none is left.

abbrev pub state_of : Visit → State
state_of is_failed = Failed
state_of (is_open T) = Open
state_of (is_plan a) = Plan

-- The node is on top afterwards, and the others are left.
abbrev pub Visits : Problem → Rule → List Visit → Option State → List Visit → List Node → Type 0
Visits P R [] None q p = q ≡ []
Visits P R [] (Some st) q p = ⊥
Visits P R (n ∷ ns) None q p = ⊥
Visits P R (n ∷ ns) (Some st) q p = (st ≡ state_of n) × (q ≡ ns) × ((N : Node) × (below : List Node) × (p ≡ N ∷ below) × (visit P R N ≡ n))

pub record Stepped (s : SearchState) (o : Option State) (t : SearchState) : Type 0 where
  pub visits : Visits s.space.problem s.rule (rest s) o (rest t) t.space.pile
  pub session : t.session ≡ true
  pub space : t.space ≡ piled s.space t.space.pile t.space.choices
  pub rule : t.rule ≡ s.rule

abbrev pub Steps : SearchState → Result (Option State) SearchFault → SearchState → Type 0
Steps s (Ok o) t = Stepped s o t
Steps s (Err e) t = ⊥

abbrev pub none_left : List Visit → Bool
none_left [] = true
none_left (n ∷ ns) = false

-- A plan on top is copied to a row of its length.
abbrev pub Copied : SpaceState → List ℕ → List ℕ → Type 0
Copied s old new = (a : List ℕ) (below : List Node) → s.pile ≡ table (single a) ∷ below → length a ≡ s.problem.variables → s.variables ≡ s.problem.variables → length old ≡ length a → new ≡ a
