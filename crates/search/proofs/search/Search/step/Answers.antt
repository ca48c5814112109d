use Rattle.std.proofs.Common.{◌≢◌, List, None, sym, refl, ◌∙◌, subst, arith}
use Rattle.tree.specs.Search.{Visit}
use Rattle.spaces.specs.Calls.{state}
use Rattle.spaces.specs.declared.space.State.TheVariants.{Open as Now-open}
use Rattle.search.specs.Choosing.{ruling}
use Rattle.search.specs.Sessions.{Visits}
use Rattle.search.proofs.Steps.{way, first_step, later-step, no_step, rule-answers, take_moved, turn_moved, take_goes, turn_goes, unanswered}
use Rattle.search.proofs.search.Search.step.Goals as goal
use Rattle.search.proofs.search.Search.step.Goals.{in-Some+in_ok-take-in-Some, in-None+else-nodes-le1+in_ok-turn-in-None}

pub returns-then-is_fresh : goal.returns-then-is_fresh
returns-then-is_fresh g c = λ se o.
    let s = c.args.self.now in
    let means = g.P.Space.means in
    first_step means g.P.Space.sound g.R.Rule.picks s se o (g.P.Space.laws s.space o.part).lawful (g.R.Rule.lawful s.rule (means s.space).problem) c.state.result (sym c.is_fresh.ensures ∙ c.if-is_fresh.true) (c.state.ensures o.part)

pub returns-in_err-take-in-Some : goal.returns-in_err-take-in-Some
returns-in_err-take-in-Some g c = λ se o.
    let s = c.args.self.now in
    let means = g.P.Space.means in
    let picks = g.R.Rule.picks in
    let m = means s.space in
    absurd (take_goes m.problem (ruling m (picks s.rule)) (g.P.Space.laws s.space o.part).lawful (g.R.Rule.lawful s.rule m.problem) m (means c.take.new.self) refl m.pile c.in-Some.x c.in-Some.v c.in_err-take-in-Some.field-0.0
    (way means g.P.Space.sound picks s se o) (sym (c.in-Some.ensures o.part)) (g.P.Space.laws s.space o.part).standing (o.sits.deep se) (c.in_err-take-in-Some.ensures.does o.part).0)

pub returns-in_err-turn-in-None : goal.returns-in_err-turn-in-None
returns-in_err-turn-in-None g c = λ se o.
    let s = c.args.self.now in
    let means = g.P.Space.means in
    let picks = g.R.Rule.picks in
    let m = means s.space in
    absurd (turn_goes m.problem (ruling m (picks s.rule)) (g.P.Space.laws s.space o.part).lawful (g.R.Rule.lawful s.rule m.problem) m (means c.turn.new.self) refl m.pile m.choices c.in_err-turn-in-None.field-0.0
    (way means g.P.Space.sound picks s se o) (omega (arith, c.nodes.ensures o.part, c.if-nodes-le1.false)) (c.in_err-turn-in-None.ensures.does o.part).0)

pub returns : goal.returns
returns g c = λ se o.
    let s = c.args.self.now in
    let means = g.P.Space.means in
    let sound = g.P.Space.sound in
    let picks = g.R.Rule.picks in
    let m = means s.space in
    let laws = (g.P.Space.laws s.space o.part).lawful in
    let lawful = g.R.Rule.lawful s.rule m.problem in
    let here = way means sound picks s se o in
    elim c.match-pick.branch [
      | in-Some+in_ok-take-in-Some w ↦
          let did = w.in_ok-take-in-Some.ensures.does o.part in
          later-step means sound picks s se o laws lawful w.take.new.self _ _ w.self-is (sym c.is_fresh.ensures ∙ c.if-is_fresh.false) did.1
          (take_moved m.problem (ruling m (picks s.rule)) laws lawful m (means w.take.new.self) refl m.pile w.in-Some.x w.in-Some.v _ here (sym (w.in-Some.ensures o.part)) did.0) c.state-2.ensures
      | in-None+else-nodes-le1+in_ok-turn-in-None w ↦
          let did = w.in_ok-turn-in-None.ensures.does o.part in
          later-step means sound picks s se o laws lawful w.turn.new.self _ _ w.self-is (sym c.is_fresh.ensures ∙ c.if-is_fresh.false) did.1
          (turn_moved m.problem (ruling m (picks s.rule)) laws lawful m (means w.turn.new.self) refl m.pile m.choices _ here
          (unanswered means sound picks s se o laws lawful (sym (w.in-None.ensures o.part))) did.0) c.state-2.ensures
    ]
