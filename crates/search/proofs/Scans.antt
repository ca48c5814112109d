-- A call with a budget, visit by visit.
use Rattle.std.proofs.Common.{◌≡◌, ℕ, suc, ◌+◌, ◌-◌, ◌<◌, ◌≤◌, true, false, List, [], ◌∷◌, ◌++◌, length, drop, Some, None, sym, refl, ap, ◌∙◌, subst, true≢false, arith}
use Rattle.std.proofs.lemmas.List.{drop-drop}
use Rattle.tree.specs.Tables.{single}
use Rattle.tree.specs.Filter.{Problem, Lawful, Node, table, NodeOf}
use Rattle.tree.specs.Search.{Rule, Picks, Visit, is_failed, is_open, is_plan, visited}
use Rattle.tree.specs.Find.{visit}
use Rattle.tree.specs.Budget.{Answer as Found, planned, done, spent, plus, scan, counted}
use Rattle.tree.proofs.Budgets.{plus-zero, plus-plus}
use Rattle.tree.proofs.Trees.{visited-visit, plan_long}
use Rattle.spaces.specs.Pile.{SpaceState, piled}
use Rattle.spaces.specs.declared.space.State.{State}
use Rattle.spaces.specs.declared.space.State.TheVariants.{Plan as Now-plan}
use Rattle.search.specs.Remaining.{Made, Sitting}
use Rattle.search.specs.Sessions.{SearchState, variables, rest, told, row_after, Went, Visits, Stepped, none_left}
use Rattle.search.specs.declared.search.Answer.TheVariants.{Plan, Done, Spent}

-- after k visits without a plan
pub record Mid (s : SearchState) (b k : ℕ) (t : SearchState) : Type 0 where
  pub answer : scan (rest s) b ≡ plus k (scan (rest t) (b - k))
  pub left : rest t ≡ drop k (rest s)
  pub session : t.session ≡ true
  pub space : t.space ≡ piled s.space t.space.pile t.space.choices
  pub rule : t.rule ≡ s.rule

pub start : (s : SearchState) (b : ℕ) → s.session ≡ true → Mid s b 0 s
start s b se = let e : b ≡ b - 0 = omega arith in record { answer = ap (scan (rest s)) e ∙ sym (plus-zero (scan (rest s) (b - 0))); left = refl; session = se; space = refl; rule = refl }

-- what one visit of a list of nodes does
module _ (P : Problem) (R : Rule) where
  none-visited : (ns q : List Visit) (p : List Node) → Visits P R ns None q p → (ns ≡ []) × (q ≡ [])
  none-visited [] q p v = (refl, v)
  none-visited (n ∷ ns) q p v = absurd v

  other-visited : (ns q : List Visit) (p : List Node) (st : State) (b : ℕ) → Visits P R ns (Some st) q p → (st ≡ Now-plan → ⊥) → (scan ns (suc b) ≡ plus 1 (scan q b)) × (q ≡ drop 1 ns)
  other-visited [] q p st b v o = absurd v
  other-visited (is_failed ∷ ns) q p st b v o = (ap (λ (ms : List Visit). plus 1 (scan ms b)) (sym v.1), v.1)
  other-visited (is_open T ∷ ns) q p st b v o = (ap (λ (ms : List Visit). plus 1 (scan ms b)) (sym v.1), v.1)
  other-visited (is_plan a ∷ ns) q p st b v o = absurd (o v.0)

  pub record PlanVisited (ns q : List Visit) (p : List Node) (b : ℕ) : Type 0 where
    pub values : List ℕ
    pub answer : scan ns (suc b) ≡ planned values 1
    pub left : q ≡ drop 1 ns
    pub node : Node
    pub below : List Node
    pub top : p ≡ node ∷ below
    pub is : visit P R node ≡ is_plan values

  plan_visited : (ns q : List Visit) (p : List Node) (b : ℕ) → Visits P R ns (Some Now-plan) q p → PlanVisited ns q p b
  plan_visited [] q p b v = absurd v
  plan_visited (is_failed ∷ ns) q p b v = absurd (let z : ◌≡◌ {A = ℕ} 0 1 = let e = v.0 in cc in omega arith)
  plan_visited (is_open T ∷ ns) q p b v = absurd (let z : ◌≡◌ {A = ℕ} 0 1 = let e = v.0 in cc in omega arith)
  plan_visited (is_plan a ∷ ns) q p b v = record { values = a; answer = refl; left = v.1; node = v.2.0; below = v.2.1; top = v.2.2; is = v.2.3 }

joined : (s m t : SearchState) → m.space ≡ piled s.space m.space.pile m.space.choices → t.space ≡ piled m.space t.space.pile t.space.choices → t.space ≡ piled s.space t.space.pile t.space.choices
joined s m t e f = f ∙ ap (λ (x : SpaceState). piled x t.space.pile t.space.choices) e

counted-plus : (k : ℕ) (r : Found) → counted (plus k r) ≡ k + counted r
counted-plus k (planned a c) = refl
counted-plus k (done c) = refl
counted-plus k (spent c) = refl

module _ (s : SearchState) (b k : ℕ) (m : SearchState) (mid : Mid s b k m) where
  pub on : (t : SearchState) (st : State) → k < b → Stepped m (Some st) t → (st ≡ Now-plan → ⊥) → Mid s b (k + 1) t
  on t st l h o =
      let e : b - k ≡ suc (b - (k + 1)) = omega arith in
      let v = other-visited m.space.problem m.rule (rest m) (rest t) t.space.pile st (b - (k + 1)) h.visits o in
      record {
        answer = mid.answer ∙ ap (λ (i : ℕ). plus k (scan (rest m) i)) e ∙ ap (plus k) v.0 ∙ plus-plus k 1 (scan (rest t) (b - (k + 1)));
        left = v.1 ∙ ap (drop 1) mid.left ∙ drop-drop 1 k (rest s);
        session = h.session;
        space = joined s m t mid.space h.space;
        rule = h.rule ∙ mid.rule;
      }

  module _ (old : List ℕ) (se : s.session ≡ true) (room : variables s ≤ length old) (some : 0 < b) where
    -- the answer is known
    went : (t : SearchState) (f : Found) (new : List ℕ) → scan (rest s) b ≡ f → rest t ≡ drop (counted f) (rest s) → t.session ≡ true → t.space ≡ piled s.space t.space.pile t.space.choices → t.rule ≡ s.rule → new ≡ row_after f old → Went s b old (told f) t new
    went t f new e left ts sp ru row = record {
      open_session = se;
      room = room;
      some = some;
      answer = ap told (sym e);
      row = row ∙ ap (λ (r : Found). row_after r old) (sym e);
      left = left ∙ ap (λ (r : Found). drop (counted r) (rest s)) (sym e);
      session = ts;
      space = sp;
      rule = ru;
    }

    pub went_done : (t : SearchState) → Stepped m None t → Went s b old (Done k) t old
    went_done t h =
        let v = none-visited m.space.problem m.rule (rest m) (rest t) t.space.pile h.visits in
        let e : k + 0 ≡ k = omega arith in
        let f : scan (rest s) b ≡ done k = mid.answer ∙ ap (λ (ms : List Visit). plus k (scan ms (b - k))) v.0 ∙ ap done e in
        went t (done k) old f (v.1 ∙ sym v.0 ∙ mid.left) h.session (joined s m t mid.space h.space) (h.rule ∙ mid.rule) refl

    pub went_plan : (t : SearchState) (new : List ℕ) → k < b → Stepped m (Some Now-plan) t → ((v : PlanVisited m.space.problem m.rule (rest m) (rest t) t.space.pile (b - (k + 1))) → new ≡ v.values ++ drop (length v.values) old) → Went s b old (Plan (k + 1)) t new
    went_plan t new l h copied =
        let e : b - k ≡ suc (b - (k + 1)) = omega arith in
        let v = plan_visited m.space.problem m.rule (rest m) (rest t) t.space.pile (b - (k + 1)) h.visits in
        let f : scan (rest s) b ≡ planned v.values (k + 1) = mid.answer ∙ ap (λ (i : ℕ). plus k (scan (rest m) i)) e ∙ ap (plus k) v.answer in
        went t (planned v.values (k + 1)) new f (v.left ∙ ap (drop 1) mid.left ∙ drop-drop 1 k (rest s)) h.session (joined s m t mid.space h.space) (h.rule ∙ mid.rule) (copied v)

    at-end : (ns : List Visit) → none_left ns ≡ true → scan ns 0 ≡ done 0
    at-end [] e = refl
    at-end (n ∷ ns) e = absurd (true≢false (sym e))

    at_spent : (ns : List Visit) → none_left ns ≡ false → scan ns 0 ≡ spent 0
    at_spent [] e = absurd (true≢false e)
    at_spent (n ∷ ns) e = refl

    pub went_over_done : b ≤ k → none_left (rest m) ≡ true → Went s b old (Done k) m old
    went_over_done l e =
        let z : b - k ≡ 0 = omega arith in
        let i : k + 0 ≡ k = omega arith in
        let f : scan (rest s) b ≡ done k = mid.answer ∙ ap (λ (j : ℕ). plus k (scan (rest m) j)) z ∙ ap (plus k) (at-end (rest m) e) ∙ ap done i in
        went m (done k) old f mid.left mid.session mid.space mid.rule refl

    pub went_over_spent : b ≤ k → none_left (rest m) ≡ false → Went s b old (Spent k) m old
    went_over_spent l e =
        let z : b - k ≡ 0 = omega arith in
        let i : k + 0 ≡ k = omega arith in
        let f : scan (rest s) b ≡ spent k = mid.answer ∙ ap (λ (j : ℕ). plus k (scan (rest m) j)) z ∙ ap (plus k) (at_spent (rest m) e) ∙ ap spent i in
        went m (spent k) old f mid.left mid.session mid.space mid.rule refl

-- a plan that was visited is on top as a table of single values
pub plan_on_top : (P : Problem) (R : Rule) → Lawful P → Picks P R → (p : List Node) (cs : List (ℕ × ℕ)) (N : Node) (below : List Node) (a : List ℕ) → p ≡ N ∷ below → visit P R N ≡ is_plan a → Sitting P R true p cs → (p ≡ table (single a) ∷ below) × (length a ≡ P.variables)
plan_on_top P R laws picks p cs N below a e is sits =
    let made : Made P R N = (subst (λ (q : List Node). Sitting P R true q cs) e sits).0 in
    let n : table (single a) ≡ N = ap visited (sym is) ∙ visited-visit P R laws picks made.0 N made.1 made.2 in
    (e ∙ ap (λ (M : Node). M ∷ below) (sym n), plan_long P made.0 a made.1 (subst (NodeOf P made.0) (sym n) made.2))
