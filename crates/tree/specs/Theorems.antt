-- What holds of every problem, rule and table. Assumes nothing.
use Rattle.std.specs.Prelude.{◌≡◌, ℕ, ◌*◌, ◌<◌, ◌≤◌, true, ◌≢◌, ◌↔◌, List, ◌++◌, length, take, drop, Some}
use Rattle.tree.specs.Tables.{Table, kept, dropped}
use Rattle.tree.specs.Filter.{Problem, Lawful, Bounded, Full, Solves, Filtered, Node, NodeOf}
use Rattle.tree.specs.Search.{Rule, Picks, Tree, TreeOf, EndsWithin, Visit, nodes, plans, plans_among, Listed, Ordered, Front, Before}
use Rattle.tree.specs.Find.{node, tree, total}
use Rattle.tree.specs.Rules.{First, Small, first, small}
use Rattle.tree.specs.Budget.{Answer, scan, Answers, calls, counts, gives, ends, AtLeast}

-- Each table has one node and no other, and `node` finds it.
abbrev pub NodeIsOne : Type 0
NodeIsOne = (P : Problem) (D : Table) → Lawful P → Bounded P D → NodeOf P D (node P D) × ((N : Node) → NodeOf P D N → N ≡ node P D)

-- After a decision filtering gives the same node, whether or not the table was filtered before.
abbrev pub FilteredOnce : Type 0
FilteredOnce =
    (P : Problem) (D T : Table) (x v : ℕ) → Filtered P D T → (N : Node) →
    (NodeOf P (kept x v T) N ↔ NodeOf P (kept x v D) N) × (NodeOf P (dropped x v T) N ↔ NodeOf P (dropped x v D) N)

-- The rules `first` and `small` keep the law of a rule, and each answers a pair exactly where no domain is empty and the pair is
-- the one that it is to answer.
pub record RulesChoose : Type 0 where
  pub first_picks : (P : Problem) → Picks P (first P.variables P.width)
  pub first-is : (P : Problem) (T : Table) (x v : ℕ) → Bounded P T → (first P.variables P.width T ≡ Some (x, v)) ↔ (Full P T × First T x v)
  pub small_picks : (P : Problem) → Picks P (small P.variables P.width)
  pub small_is : (P : Problem) (T : Table) (x v : ℕ) → Bounded P T → (small P.variables P.width T ≡ Some (x, v)) ↔ (Full P T × Small P.width T x v)

-- Each table has one tree and no other, and `tree` finds it.
abbrev pub TreeIsOne : Type 0
TreeIsOne = (P : Problem) (R : Rule) (D : Table) → Lawful P → Picks P R → Bounded P D → TreeOf P R D (tree P R D) × ((t : Tree) → TreeOf P R D t → t ≡ tree P R D)

-- It ends: a way down has no more forks than the domains have values, which are at most the variables times the width.
abbrev pub TreeEnds : Type 0
TreeEnds = (P : Problem) (R : Rule) (D : Table) (t : Tree) → Picks P R → Bounded P D → TreeOf P R D t → EndsWithin (total P D) t × (total P D ≤ P.variables * P.width)

-- The plan list of the tree t of D holds plans of D only, every one, none twice, and in tree order.
pub record Plans (P : Problem) (D : Table) (t : Tree) : Type 0 where
  pub sound : (a : List ℕ) → Listed a (plans t) → Solves P D a
  pub complete : (a : List ℕ) → Solves P D a → Listed a (plans t)
  pub apart : Ordered ◌≢◌ (plans t)
  pub ordered : Ordered (Before t) (plans t)

abbrev pub PlansAreAll : Type 0
PlansAreAll = (P : Problem) (R : Rule) (D : Table) (t : Tree) → Lawful P → Picks P R → Bounded P D → TreeOf P R D t → Plans P D t

-- The plans among the first m nodes are the front of the plan list, and those among the other nodes the rest of it.
abbrev pub PlansInFront : Type 0
PlansInFront = (t : Tree) (m : ℕ) → plans_among (take m (nodes t)) ++ plans_among (drop m (nodes t)) ≡ plans t

-- A call answers by the rule of the answers, and no other answer keeps it.
abbrev pub AnswerIsOne : Type 0
AnswerIsOne = (ns : List Visit) (b : ℕ) → Answers ns b (scan ns b) × ((r : Answer) → Answers ns b r → r ≡ scan ns b)

-- The answers rs to the budgets bs, call after call from the root of t. A budget may be 0.
pub record Run (t : Tree) (bs : List ℕ) (rs : List Answer) : Type 0 where
  -- the calls count the first nodes of the tree, and give the plans among these, which are the front of the plan list
  pub within : counts rs ≤ length (nodes t)
  pub among : gives rs ≡ plans_among (take (counts rs) (nodes t))
  pub front : Front (gives rs) (plans t)
  -- once all nodes are counted the whole list is given, and so it is after done
  pub whole : counts rs ≡ length (nodes t) → gives rs ≡ plans t
  pub after_done : ends rs ≡ true → counts rs ≡ length (nodes t)
  -- Two ways in which budgets cover the tree. A call stops at a plan, so that a large sum of budgets alone does not.
  -- No budget is 0, and there are as many calls as nodes: then all are counted; the call after these answers done.
  pub one_by_one : AtLeast 1 bs → length (nodes t) ≤ length bs → counts rs ≡ length (nodes t)
  pub then_done : AtLeast 1 bs → length (nodes t) < length bs → ends rs ≡ true
  -- Each budget is enough for all nodes, and there are more calls than plans: then one answers done.
  pub plan_by_plan : AtLeast (length (nodes t)) bs → length (plans t) < length bs → ends rs ≡ true

abbrev pub BudgetsGiveThePlans : Type 0
BudgetsGiveThePlans = (t : Tree) (bs : List ℕ) → Run t bs (calls (nodes t) bs)
