use Rattle.std.proofs.Common.{◌≡◌, length, reverse, not, Ok, ap, ◌∙◌, subst, arith}
use Rattle.model.specs.Meaning.{means as model-means}
use Rattle.spaces.proofs.Bases.{reverse_push, never}
use Rattle.recomputing.specs.Walk.{taken, Replays}
use Rattle.recomputing.specs.Recomputed.{IsSound}
use Rattle.recomputing.specs.Walks.{no_take}
use Rattle.recomputing.specs.declared.path.Step.TheVariants.{Drop}
use Rattle.recomputing.proofs.Recomputes.{run-variables, rebased, replays, turn_done}
use Rattle.recomputing.proofs.recomputing.RecomputingSpace.turn.Goals as goal

pub returns-in_default : goal.returns-in_default
returns-in_default g c =
    let s = c.args.self.now in
    let no_way : IsSound g.T.DomainTable.sound g.K.Kinds.demands g.T.DomainTable.means s → ⊥ = λ sd.
    let e : length (taken (reverse s.path)) ≡ 0 = no_take (reverse s.path) c.in_default.ensures.unwinds in
    let h = sd.counted in
    let t = c.if-self-eq0.false in
    omega arith in
    record { does = never no_way; refused = never no_way }

pub returns-in_err-replay : goal.returns-in_err-replay
returns-in_err-replay g c =
    let s = c.args.self.now in
    let D = g.K.Kinds.demands in
    let m = model-means s.base.model.now in
    let tm = g.T.DomainTable.means in
    let S = g.T.DomainTable.sound in
    let t = tm s.base.table in
    let ss = reverse s.path in
    let on = c.is_none.ensures ∙ ap not c.if-is_none.false in
    let no_way : IsSound S D tm s → ⊥ = λ sd.
    let k = c.in_ok-restore.ensures.does sd.part in
    let h = c.in_ok-mark.ensures.does k.1 in
    let e = rebased D m (S s.base.table) t s.takes ss s.base.top (tm c.restore.new.self) (tm c.mark.new.self) sd.runs on k.0 h.0 in
    let pp = reverse_push c.unwind.new.path c.as_slice.result.now (Drop c.in-Some.x c.in-Some.v) (c.as_slice.ensures ∙ c.push.ensures) in
    let r = c.in_err-replay.ensures h.1 in
    replays D m (S s.base.table) t s.takes ss s.base.top (tm c.mark.new.self) (tm c.replay.new.table) (reverse c.unwind.new.path) (reverse c.as_slice.result.now) c.in-Some.x c.in-Some.v c.in_err-replay.field-0.0
    (g.T.DomainTable.bounded s.base.table sd.part) sd on c.in-Some.ensures.unwinds e pp r.0 in
    record { does = never no_way; refused = never no_way }

pub returns-clause-does : goal.returns-clause-does
returns-clause-does g c = λ sd.
    let s = c.args.self.now in
    let D = g.K.Kinds.demands in
    let m = model-means s.base.model.now in
    let tm = g.T.DomainTable.means in
    let S = g.T.DomainTable.sound in
    let t = tm s.base.table in
    let z = c.filtered.new.self in
    let ss = reverse s.path in
    let on = c.is_none.ensures ∙ ap not c.if-is_none.false in
    let k = c.in_ok-restore.ensures.does sd.part in
    let h = c.in_ok-mark.ensures.does k.1 in
    let e = rebased D m (S s.base.table) t s.takes ss s.base.top (tm c.restore.new.self) (tm c.mark.new.self) sd.runs on k.0 h.0 in
    let pp = reverse_push c.unwind.new.path c.push.new.self (Drop c.in-Some.x c.in-Some.v) c.push.ensures in
    let r = c.in_ok-replay.ensures h.1 in
    let n = ap (λ q. q.variables) r.0 ∙ ap (λ q. q.variables) e ∙ run-variables D m t s.base.top ss on sd.runs in
    let f = c.in_ok-filtered.ensures.does r.1 in
    rw c.in_ok-filtered.ensures.model
    (turn_done D m (S s.base.table) t s.takes ss (S z.table) s.base.top z.top (tm c.mark.new.self) (tm c.replay.new.table) (tm z.table) (reverse c.unwind.new.path) (reverse c.push.new.self) c.in-Some.x c.in-Some.v
    (g.T.DomainTable.bounded s.base.table sd.part) sd f.1 on c.in-Some.ensures.unwinds e pp (subst (λ q. Replays (tm c.mark.new.self) (reverse q) (tm c.replay.new.table) (Ok tt)) c.as_slice.ensures r.0) (f.0 n tt))
