use Rattle.std.proofs.Common.{◌≡◌, ℕ, ◌+◌, ◌-◌, ◌≤◌, true, List, ◌++◌, length, take, drop, Some, None, Ok, Option, Result, sym, refl, ap, ◌∙◌, ap₂, subst, subst₂, arith}
use Rattle.std.proofs.lemmas.List.{length-take-le}
use Rattle.tree.specs.Filter.{Problem}
use Rattle.tree.specs.Search.{Rule}
use Rattle.spaces.specs.Pile.{SpaceState}
use Rattle.spaces.specs.declared.space.State.{State}
use Rattle.search.specs.Remaining.{Sitting}
use Rattle.search.specs.Sessions.{SearchState, view, rest, Steps, Stepped, Went}
use Rattle.search.specs.declared.search.Answer.TheVariants.{Done, Spent}
use Rattle.search.specs.declared.search.SearchFault.{SearchFault}
use Rattle.search.proofs.Scans.{Mid, start, on, went_done, went_plan, went_over_done, went_over_spent, plan_on_top, PlanVisited}
use Rattle.search.proofs.Steps.{way}
use Rattle.search.proofs.search.Search.next.Goals as goal

stepped_at : (s t : SearchState) (r : Result (Option State) SearchFault) (o q : Option State) → Steps s r t → r ≡ Ok o → o ≡ q → Stepped s q t
stepped_at s t r o q h e f = subst (λ (x : Result (Option State) SearchFault). Steps s x t) (e ∙ ap Ok f) h

pub returns-in-Plan : goal.returns-in-Plan
returns-in-Plan g c = λ o.
    let means = g.P.Space.means in
    let picks = g.R.Rule.picks in
    let sound = g.P.Space.sound in
    let se = sym c.is_open.ensures ∙ c.if-not-is_open.false in
    let mid = c.loop-count.invariant.1 o se in
    let did = c.step.ensures mid.0.session mid.1 in
    let m = view means picks c.loop-count.self in
    let b = c.step.new.self in
    let t = view means picks b in
    let h = stepped_at m t c.step.result c.in_ok-state.field-0 _ did.0 c.in_ok-state.was (c.in-Some.is ∙ ap Some c.in-Plan.is) in
    let row = c.loop-count.invariant.0 in
    let room : (means c.args.self.now.space).problem.variables ≤ length c.args.row.now = omega (arith, c.if-row-n.false, c.variables-n.ensures o.part) in
    let n : c.variables-n.result ≡ (means c.args.self.now.space).problem.variables = c.variables-n.ensures o.part in
    let copied : (v : PlanVisited m.space.problem m.rule (rest m) (rest t) t.space.pile (c.args.budget - (c.loop-count.count + 1))) → c.copy.new.row ++ drop c.variables-n.result c.loop-count.row ≡ v.values ++ drop (length v.values) c.args.row.now = λ v.
    let prob : t.space.problem ≡ m.space.problem = ap (λ (x : SpaceState). x.problem) h.space in
    let here = subst₂ (λ (P : Problem) (R : Rule). Sitting P R true t.space.pile t.space.choices) prob h.rule (way means sound picks b h.session did.1) in
    let q = plan_on_top m.space.problem m.rule (g.P.Space.laws c.loop-count.self.space mid.1.part).lawful (g.R.Rule.lawful c.loop-count.self.rule m.space.problem) t.space.pile t.space.choices v.node v.below v.values v.top v.is here in
    let same : m.space.problem ≡ (means c.args.self.now.space).problem = ap (λ (x : SpaceState). x.problem) mid.0.space in
    let long : length v.values ≡ c.variables-n.result = q.1 ∙ ap (λ (P : Problem). P.variables) same ∙ sym n in
    let front : length (take c.variables-n.result c.loop-count.row) ≡ length v.values = length-take-le c.variables-n.result c.loop-count.row (omega (arith, c.if-row-n.false, ap length row)) ∙ sym long in
    ap₂ (λ (us vs : List ℕ). us ++ vs) (c.copy.ensures did.1.part v.values v.below q.0 (q.1 ∙ ap (λ (P : Problem). P.variables) (sym prob)) (did.1.sits.ready h.session) front) (ap₂ (λ (k : ℕ) (us : List ℕ). drop k us) (sym long) row) in
    (went_plan (view means picks c.args.self.now) c.args.budget c.loop-count.count m mid.0 c.args.row.now se room (omega (arith, c.if-budget-eq0.false)) t (c.copy.new.row ++ drop c.variables-n.result c.loop-count.row) c.loop-count-test.true h copied, did.1)

pub loop-count-preserved : goal.loop-count-preserved
loop-count-preserved g c = (
  c.loop-count.invariant.0,
  λ o se.
      let means = g.P.Space.means in
      let picks = g.R.Rule.picks in
      let mid = c.loop-count.invariant.1 o se in
      let did = c.step.ensures mid.0.session mid.1 in
      let m = view means picks c.loop-count.self in
      let t = view means picks c.step.new.self in
      (on (view means picks c.args.self.now) c.args.budget c.loop-count.count m mid.0 t c.in-Some.state c.loop-count-test.true (stepped_at m t c.step.result c.in_ok-state.field-0 (Some c.in-Some.state) did.0 c.in_ok-state.was c.in-Some.is) c.in_default-state.not-Plan, did.1),
)
