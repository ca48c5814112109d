use Rattle.std.proofs.Common.{◌≡◌, length, reverse, ap, Option, arith}
use Rattle.std.proofs.lemmas.Bool.Decides.{nat_tests}
use Rattle.std.proofs.lemmas.List.{length-reverse}
use Rattle.model.specs.Meaning.{means as model-means}
use Rattle.spaces.specs.declared.base.Top.{Top}
use Rattle.spaces.proofs.Bases.{reverse_push, can_take, cannot_take, never}
use Rattle.marking.specs.Marks.{IsSound, marking, pile_of, younger}
use Rattle.marking.proofs.Marked.{alive, count-below, take_begins, take_done}
use Rattle.marking.proofs.MarkingSpace.take.Goals as goal

pub returns-in_err-can_take-clause-does : goal.returns-in_err-can_take-clause-does
returns-in_err-can_take-clause-does g c = λ sd.
    let s = c.args.self.now in
    let D = g.K.Kinds.demands in
    let m = model-means s.base.model.now in
    let t = g.T.DomainTable.means s.base.table in
    let a = marking D m t s.base.top (reverse s.choices.items) in (
      cannot_take a a s.base.top c.nodes.result c.args.x c.args.v t.domains (pile_of s.base.top t) (younger t.saved) c.in_err-can_take.field-0.0 c.from_residual.result
          (λ e. ap (λ (o : Option Top). pile_of o t) e) (λ b e. ap (λ (o : Option Top). pile_of o t) e) (c.nodes.ensures sd) c.from_residual.ensures.1 (c.in_err-can_take.ensures sd.part),
      sd,
    )

pub returns-then-is_full-clause-does : goal.returns-then-is_full-clause-does
returns-then-is_full-clause-does g c = λ sd.
    let s = c.args.self.now in
    let D = g.K.Kinds.demands in
    let m = model-means s.base.model.now in
    let t = g.T.DomainTable.means s.base.table in
    let cs = reverse s.choices.items in
    let y = can_take s.base.top c.nodes.result c.args.x c.args.v t.domains (c.in_ok-can_take.ensures sd.part) in
    let l = count-below D m t cs c.args.x c.args.v (alive D m t s.base.top cs y.0 sd.runs) y.1 in
    let f = sd.few in
    let e = length-reverse s.choices.items in
    let k : length s.choices.items ≡ 64 = let a = c.is_full.ensures.value in let b = c.if-is_full.true in grind (arith, nat_tests) in
    absurd (omega arith)

pub returns-in_err-filtered : goal.returns-in_err-filtered
returns-in_err-filtered g c =
    let s = c.args.self.now in
    let D = g.K.Kinds.demands in
    let m = model-means s.base.model.now in
    let tm = g.T.DomainTable.means in
    let t = tm s.base.table in
    let cs = reverse s.choices.items in
    let no_way : IsSound g.T.DomainTable.sound D tm s → ⊥ = λ sd.
    let r = alive D m t s.base.top cs (can_take s.base.top c.nodes.result c.args.x c.args.v t.domains (c.in_ok-can_take.ensures sd.part)).0 sd.runs in
    let h = c.in_ok-mark.ensures.does sd.part in
    let q = c.in_ok-keep.ensures.does h.1 in
    let b = take_begins D m t (tm c.mark.new.self) (tm c.keep.new.self) c.args.x c.args.v cs c.in_ok-keep.field-0 r h.0 q.0 in
    (c.in_err-filtered.ensures.does q.1).0 b.0 b.1 in
    record { does = never no_way; refused = never no_way }

pub returns-clause-does : goal.returns-clause-does
returns-clause-does g c = λ sd.
    let s = c.args.self.now in
    let D = g.K.Kinds.demands in
    let m = model-means s.base.model.now in
    let tm = g.T.DomainTable.means in
    let S = g.T.DomainTable.sound in
    let t = tm s.base.table in
    let z = c.filtered.new.self in
    let cs = reverse s.choices.items in
    let y = can_take s.base.top c.nodes.result c.args.x c.args.v t.domains (c.in_ok-can_take.ensures sd.part) in
    let h = c.in_ok-mark.ensures.does sd.part in
    let q = c.in_ok-keep.ensures.does h.1 in
    let b = take_begins D m t (tm c.mark.new.self) (tm c.keep.new.self) c.args.x c.args.v cs c.in_ok-keep.field-0 (alive D m t s.base.top cs y.0 sd.runs) h.0 q.0 in
    let f = c.in_ok-filtered.ensures.does q.1 in
    rw c.in_ok-filtered.ensures.model
    (take_done D m (S s.base.table) (S z.table) t (tm c.mark.new.self) (tm c.keep.new.self) (tm z.table) s.base.top z.top c.args.x c.args.v cs (reverse c.push.new.self.items) c.in_ok-keep.field-0
    sd f.1 y.0 y.1 h.0 q.0 (f.0 b.0 b.1) (reverse_push s.choices.items c.push.new.self.items (c.args.x, c.args.v) c.push.ensures.items))
