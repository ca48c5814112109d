use Rattle.std.proofs.Common.{ℕ, ◌<◌, List, ◌++◌, length, drop, sym, ap, ◌∙◌, subst}
use Rattle.tree.specs.Search.{nodes, plans_among}
use Rattle.tree.specs.Budget.{calls, counts}
use Rattle.tree.proofs.Budgets.{plans_split, plans-nodes, calls-within, calls-among, calls-whole, calls_done, calls_one_by_one, calls_then_done, calls_plan_by_plan}
use Rattle.tree.proofs.budgets_give_the_plans.Goals as goal

pub returns : goal.returns
returns c = λ t bs.
    let ns = nodes t in
    let m = counts (calls ns bs) in
    record {
      within = calls-within bs ns;
      among = calls-among bs ns;
      front = (plans_among (drop m ns), ap (λ (q : List (List ℕ)). q ++ plans_among (drop m ns)) (calls-among bs ns) ∙ plans_split m ns ∙ plans-nodes t);
      whole = λ e. calls-whole bs ns e ∙ plans-nodes t;
      after_done = calls_done bs ns;
      one_by_one = calls_one_by_one bs ns;
      then_done = calls_then_done bs ns;
      plan_by_plan = λ a lt. calls_plan_by_plan bs ns a (subst (λ (us : List (List ℕ)). length us < length bs) (sym (plans-nodes t)) lt);
    }
