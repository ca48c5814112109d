use Rattle.std.proofs.Common.{◌+◌, ◌<◌, ltb, sym, ◌∙◌, subst, arith}
use Rattle.std.proofs.lemmas.Bool.{ltb-true}
use Rattle.search.proofs.Preferring.{ScannedOn, refused, empty, scan_begins, scan_closed, scan-taken, scan-kept, scan-settles}
use Rattle.search.proofs.rule.preferred.Goals as goal
use Rattle.search.proofs.rule.preferred.Goals.{then-size-gt1+then-replaces+else-settles, else-size-gt1, else-size-gt1-via-then-size-gt1+else-replaces, else-size-gt1-via-else-size-gt1}

pub loop-x-preserved : goal.loop-x-preserved
loop-x-preserved g c = λ o.
    let s = g.P.Space.means c.args.space.now in
    let l : c.loop-x.x < s.problem.variables = omega (arith, c.variables-x-end.ensures o, c.loop-x-test.true) in
    let z : 0 < c.in-Ok.size = omega (arith, c.if-size-eq0.false) in
    elim c.if-size-gt1.branch [
      | then-size-gt1+then-replaces+else-settles w ↦ subst (ScannedOn s c.args.preference (c.loop-x.x + 1)) (sym w.best-is) (scan-taken s c.args.preference c.loop-x.x c.in-Ok.size c.loop-x.best l z w.if-size-gt1.true (sym w.replaces.ensures ∙ w.if-replaces.true) (c.in-Ok.ensures o) (c.loop-x.invariant o))
      | else-size-gt1 w ↦ subst (ScannedOn s c.args.preference (c.loop-x.x + 1)) (sym w.best-is) (elim w.else-size-gt1.branch [
        | else-size-gt1-via-then-size-gt1+else-replaces v ↦ scan-kept s c.args.preference c.loop-x.x c.in-Ok.size c.loop-x.best l z v.if-size-gt1.true (sym v.replaces.ensures ∙ v.if-replaces.false) (c.in-Ok.ensures o) (c.loop-x.invariant o)
        | else-size-gt1-via-else-size-gt1 v ↦ scan_closed s c.args.preference c.loop-x.x c.in-Ok.size c.loop-x.best l z (omega (arith, v.if-size-gt1.false)) (c.in-Ok.ensures o) (c.loop-x.invariant o)
      ])
    ]

pub returns-then-settles : goal.returns-then-settles
returns-then-settles g c = λ o.
    let s = g.P.Space.means c.args.space.now in
    scan-settles s c.args.preference c.loop-x.x c.in-Ok.size c.loop-x.best (omega (arith, c.variables-x-end.ensures o, c.loop-x-test.true)) (omega (arith, c.if-size-eq0.false))
    (ltb 0 c.nodes-run.result) (λ e. omega (arith, ltb-true 0 c.nodes-run.result e, c.nodes-run.ensures o)) (g.P.Space.laws c.args.space.now o)
    (sym c.settles.ensures ∙ c.if-settles.true) c.if-size-gt1.true (sym c.replaces.ensures ∙ c.if-replaces.true) (c.in-Ok.ensures o) (c.loop-x.invariant o)

pub returns-in_default : goal.returns-in_default
returns-in_default g c = λ o. refused (g.P.Space.means c.args.space.now) (g.P.Space.laws c.args.space.now o) c.args.preference c.loop-x.x c.in_default.field-0 (omega (arith, c.variables-x-end.ensures o, c.loop-x-test.true)) (c.in_default.ensures o)

pub returns-then-size-eq0 : goal.returns-then-size-eq0
returns-then-size-eq0 g c = λ o. empty (g.P.Space.means c.args.space.now) (g.P.Space.laws c.args.space.now o) c.args.preference c.loop-x.x c.in-Ok.size (omega (arith, c.variables-x-end.ensures o, c.loop-x-test.true)) c.if-size-eq0.true (c.in-Ok.ensures o)
