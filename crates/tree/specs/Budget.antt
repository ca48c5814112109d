-- Calls with a budget: each visits some of the nodes that are still to visit. Assumes nothing.
use Rattle.std.specs.Prelude.{◌≡◌, ℕ, zero, suc, ◌+◌, ◌<◌, ◌≤◌, Bool, true, false, ◌||◌, List, [], ◌∷◌, ◌++◌, length, take, drop}
use Rattle.tree.specs.Search.{Visit, is_failed, is_open, is_plan, plans_among}

-- What a call answers, with the count of the nodes that it visited: a plan with its values, that no node is left (done), or
-- that nodes are left and the budget is used up (spent).
pub data Answer : Type 0 where
  planned : List ℕ → ℕ → Answer
  done : ℕ → Answer
  spent : ℕ → Answer

-- The same answer after k visits more.
abbrev pub plus : ℕ → Answer → Answer
plus k (planned a c) = planned a (k + c)
plus k (done c) = done (k + c)
plus k (spent c) = spent (k + c)

-- A call with the budget b visits the nodes ns in their order until a plan is visited, none is left, or its count is b.
abbrev pub scan : List Visit → ℕ → Answer
scan [] b = done 0
scan (n ∷ ns) zero = spent 0
scan (is_plan a ∷ ns) (suc b) = planned a 1
scan (is_open T ∷ ns) (suc b) = plus 1 (scan ns b)
scan (is_failed ∷ ns) (suc b) = plus 1 (scan ns b)

abbrev pub counted : Answer → ℕ
counted (planned a c) = c
counted (done c) = c
counted (spent c) = c

-- The nodes that a call leaves for the next one.
abbrev pub left_by : Answer → List Visit → List Visit
left_by r ns = drop (counted r) ns

-- The plans that an answer gives: one, or none.
abbrev pub given : Answer → List (List ℕ)
given (planned a c) = a ∷ []
given (done c) = []
given (spent c) = []

abbrev pub is_done : Answer → Bool
is_done (planned a c) = false
is_done (done c) = true
is_done (spent c) = false

-- The rule of the answers, without a step of the scan. A plan: it is the last node counted and the first plan among ns.
-- Done: all of ns are counted, and there is no plan among them. Spent: as many nodes as the budget are counted, there is no
-- plan among them, and nodes are left. No count is above the budget.
abbrev pub Answers : List Visit → ℕ → Answer → Type 0
Answers ns b (planned a c) =
    (before : List Visit) × (after : List Visit) × (ns ≡ before ++ (is_plan a ∷ after)) × (plans_among before ≡ []) × (c ≡ suc (length before)) × (c ≤ b)
Answers ns b (done c) = (plans_among ns ≡ []) × (c ≡ length ns) × (c ≤ b)
Answers ns b (spent c) = (plans_among (take b ns) ≡ []) × (c ≡ b) × (b < length ns)

-- The answers of one call after the other, a budget for each; each call goes on where the one before it stopped.
abbrev pub calls : List Visit → List ℕ → List Answer
calls ns [] = []
calls ns (b ∷ bs) = scan ns b ∷ calls (left_by (scan ns b) ns) bs

-- Of a list of answers: the sum of the counts, all plans given, and whether one was done.
abbrev pub counts : List Answer → ℕ
counts [] = 0
counts (r ∷ rs) = counted r + counts rs

abbrev pub gives : List Answer → List (List ℕ)
gives [] = []
gives (r ∷ rs) = given r ++ gives rs

abbrev pub ends : List Answer → Bool
ends [] = false
ends (r ∷ rs) = is_done r || ends rs

-- No budget is below k.
abbrev pub AtLeast : ℕ → List ℕ → Type 0
AtLeast k [] = Unit {0}
AtLeast k (b ∷ bs) = (k ≤ b) × AtLeast k bs
