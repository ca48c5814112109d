use Rattle.std.proofs.Common.{reverse, not, ap, ◌∙◌, ⊎_elim, arith}
use Rattle.model.specs.Meaning.{means as model-means}
use Rattle.kinds.specs.Problems.{problem}
use Rattle.spaces.specs.Bases.{Lands}
use Rattle.spaces.proofs.Bases.{reverse_push, lands_well, never}
use Rattle.marking.specs.Marks.{IsSound}
use Rattle.marking.proofs.Marked.{forked, turn_begins, turn_well}
use Rattle.marking.proofs.MarkingSpace.turn.Goals as goal

pub returns-in_err-drop : goal.returns-in_err-drop
returns-in_err-drop g c =
    let s = c.args.self.now in
    let D = g.K.Kinds.demands in
    let m = model-means s.base.model.now in
    let tm = g.T.DomainTable.means in
    let no_way : IsSound g.T.DomainTable.sound D tm s → ⊥ = λ sd.
    let on = c.is_none.ensures ∙ ap not c.if-is_none.false in
    let popped = reverse_push c.pop.new.self.items s.choices.items (c.in-Some.x, c.in-Some.v) c.in-Some.ensures.items in
    let h = c.in_ok-restore.ensures.does sd.part in
    let d = c.in_err-drop.ensures.does h.1 in
    let fk = forked D m (tm s.base.table) (tm c.restore.new.self) s.base.top (reverse s.choices.items) (reverse c.pop.new.self.items) (c.in-Some.x, c.in-Some.v) sd.runs on popped h.0 in
    let b = (g.T.DomainTable.bounded c.restore.new.self h.1).within _ _ fk.chose.has in
    let z : ⊥ = ⊎_elim (λ l. omega arith) (λ l. omega arith) d.0.0 in
    z in
    record { does = never no_way; refused = never no_way }

pub returns : goal.returns
returns g c =
    let s = c.args.self.now in
    let D = g.K.Kinds.demands in
    let m = model-means s.base.model.now in
    let tm = g.T.DomainTable.means in
    let S = g.T.DomainTable.sound in
    let t = tm s.base.table in
    let z = c.filtered.new.self in
    let cs = reverse s.choices.items in
    let ds = reverse c.pop.new.self.items in
    let on = c.is_none.ensures ∙ ap not c.if-is_none.false in
    let popped = reverse_push c.pop.new.self.items s.choices.items (c.in-Some.x, c.in-Some.v) c.in-Some.ensures.items in
    let landed : IsSound S D tm s → Lands (problem D m (tm c.drop.new.self).width) (tm c.drop.new.self) (tm z.table) z.top c.filtered.result × S z.table = λ sd.
    let h = c.in_ok-restore.ensures.does sd.part in
    let d = c.in_ok-drop.ensures.does h.1 in
    let fk = forked D m t (tm c.restore.new.self) s.base.top cs ds (c.in-Some.x, c.in-Some.v) sd.runs on popped h.0 in
    let b = turn_begins D m t (tm c.restore.new.self) (tm c.drop.new.self) c.in-Some.x c.in-Some.v ds c.in_ok-drop.field-0 fk h.0 d.0 in
    let f = c.filtered.ensures.does d.1 in
    (f.0 b.0 b.1, f.1) in
    record {
      does = λ sd.
          let h = c.in_ok-restore.ensures.does sd.part in
          let d = c.in_ok-drop.ensures.does h.1 in
          let f = landed sd in
          turn_well D m (S s.base.table) (S z.table) t (tm c.restore.new.self) (tm c.drop.new.self) (tm z.table) (model-means z.model.now) s.base.top z.top c.in-Some.x c.in-Some.v cs ds c.in_ok-drop.field-0 c.filtered.result
          sd f.1 on popped h.0 d.0 (ap (λ q. model-means q.now) c.filtered.ensures.model) f.0;
      refused = λ sd. lands_well _ _ _ _ c.filtered.result _ _ (landed sd).0;
    }
