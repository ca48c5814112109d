-- Whole runs of calls on a search, and what holds of every run. Assumes nothing.
use Rattle.std.specs.Prelude.{◌≡◌, ℕ, ◌+◌, ◌≤◌, Bool, true, false, ◌||◌, List, [], ◌∷◌, ◌++◌, length, take, drop, Ok, Err, Result}
use Rattle.tree.specs.Tables.{Table}
use Rattle.tree.specs.Filter.{Problem}
use Rattle.tree.specs.Search.{Tree, TreeOf, nodes, plans, plans_among, Front}
use Rattle.tree.specs.Budget.{Answer as Found, planned, done, spent, calls}
use Rattle.tree.specs.Theorems.{Plans}
use Rattle.search.specs.Sessions.{SearchState, Begins, Nexts, Closes}
use Rattle.search.specs.declared.search.Ticket.{Ticket}
use Rattle.search.specs.declared.search.Answer.{Answer}
use Rattle.search.specs.declared.search.Answer.TheVariants.{Plan, Done, Spent}
use Rattle.search.specs.declared.search.SearchFault.{SearchFault}

-- A call with what it was handed and what it answered: of next the budget, and the row before and after.
pub data Event : Type 0 where
  began : Result Ticket SearchFault → Event
  asked : ℕ → List ℕ → Result Answer SearchFault → List ℕ → Event
  closed : Result (Unit {0}) SearchFault → Event

-- From a by these calls to b: each call does what it promises, and no more is known of it.
pub data Runs {S : Type 0} (view : S → SearchState) (sound : S → Type 0) : S → List Event → S → Type 0 where
  rests : {a : S} → Runs view sound a [] a
  begins : {a b c : S} {es : List Event} {r : Result Ticket SearchFault} → (sound a → Begins view a r b × sound b) → Runs view sound b es c → Runs view sound a (began r ∷ es) c
  asks : {a b c : S} {es : List Event} {budget : ℕ} {old new : List ℕ} {r : Result Answer SearchFault} → (sound a → Nexts view a budget old r b new × sound b) → Runs view sound b es c → Runs view sound a (asked budget old r new ∷ es) c
  closes : {a b c : S} {es : List Event} {r : Result (Unit {0}) SearchFault} → (sound a → Closes view a r b × sound b) → Runs view sound b es c → Runs view sound a (closed r ∷ es) c

-- An accepted next.
pub record Call : Type 0 where
  pub budget : ℕ
  pub old : List ℕ
  pub answer : Answer
  pub new : List ℕ

-- The accepted next calls since the last accepted begin, in their order.
abbrev pub since : List Call → List Event → List Call
since cs [] = cs
since cs (began (Ok k) ∷ es) = since [] es
since cs (began (Err e) ∷ es) = since cs es
since cs (asked b old (Ok r) new ∷ es) = since (cs ++ (record { budget = b; old = old; answer = r; new = new } ∷ [])) es
since cs (asked b old (Err e) new ∷ es) = since cs es
since cs (closed r ∷ es) = since cs es

-- Whether some begin was accepted.
abbrev pub begun : Bool → List Event → Bool
begun b [] = b
begun b (began (Ok k) ∷ es) = begun true es
begun b (began (Err e) ∷ es) = begun b es
begun b (asked n old r new ∷ es) = begun b es
begun b (closed r ∷ es) = begun b es

abbrev pub budgets : List Call → List ℕ
budgets [] = []
budgets (c ∷ cs) = c.budget ∷ budgets cs

-- The counts added up, the plans given (the n values at the front of the row), and whether done was answered.
abbrev pub count : Answer → ℕ
count (Plan c) = c
count (Done c) = c
count (Spent c) = c

abbrev pub total : List Call → ℕ
total [] = 0
total (c ∷ cs) = count c.answer + total cs

abbrev pub gave : ℕ → Answer → List ℕ → List (List ℕ)
gave n (Plan c) row = take n row ∷ []
gave n (Done c) row = []
gave n (Spent c) row = []

abbrev pub given : ℕ → List Call → List (List ℕ)
given n [] = []
given n (c ∷ cs) = gave n c.answer c.new ++ given n cs

abbrev pub is_done : Answer → Bool
is_done (Plan c) = false
is_done (Done c) = true
is_done (Spent c) = false

abbrev pub finished : List Call → Bool
finished [] = false
finished (c ∷ cs) = is_done c.answer || finished cs

-- A call answered r: the same kind and count; a plan stands at the front of the row, and all else of the row is as it was.
abbrev pub Answered : Call → Found → Type 0
Answered c (planned a k) = (c.answer ≡ Plan k) × (c.new ≡ a ++ drop (length a) c.old)
Answered c (done k) = (c.answer ≡ Done k) × (c.new ≡ c.old)
Answered c (spent k) = (c.answer ≡ Spent k) × (c.new ≡ c.old)

abbrev pub AllAnswered : List Call → List Found → Type 0
AllAnswered [] [] = Unit {0}
AllAnswered [] (r ∷ rs) = ⊥
AllAnswered (c ∷ cs) [] = ⊥
AllAnswered (c ∷ cs) (r ∷ rs) = Answered c r × AllAnswered cs rs

-- What holds of the accepted next calls since the last accepted begin, for the tree t of the base D.
pub record Lists (P : Problem) (D : Table) (t : Tree) (cs : List Call) : Type 0 where
  -- the plans given are the front of the plan list, and all of it after done
  pub front : Front (given P.variables cs) (plans t)
  pub whole : finished cs ≡ true → given P.variables cs ≡ plans t
  -- that list holds every plan of the base, only plans, none twice, in tree order
  pub list : Plans P D t
  -- each call answers what the rules give it from the first node not yet counted
  pub answers : AllAnswered cs (calls (nodes t) (budgets cs))
  -- the counts add up to at most the number of nodes, and to all of them after done
  pub within : total cs ≤ length (nodes t)
  pub ends : finished cs ≡ true → total cs ≡ length (nodes t)
  -- the plans given are those among the nodes counted
  pub among : given P.variables cs ≡ plans_among (take (total cs) (nodes t))

-- The law of a search just opened: whatever calls come, accepted or refused, with whatever budgets and rows.
pub record Law {S : Type 0} (view : S → SearchState) (a : S) (es : List Event) (b : S) : Type 0 where
  -- before any accepted begin nothing is given and nothing counted
  pub before : begun false es ≡ false → since [] es ≡ []
  -- after one the base has one tree, and the calls since list its plans
  pub since_begin : begun false es ≡ true → (t : Tree) × TreeOf (view a).space.problem (view a).rule (view a).space.base t × ((s : Tree) → TreeOf (view a).space.problem (view a).rule (view a).space.base s → s ≡ t) × Lists (view a).space.problem (view a).space.base t (since [] es)
  -- with no session open the space is as it was: its base, saved tables, pile and choices
  pub restored : (view b).session ≡ false → (view b).space ≡ (view a).space
