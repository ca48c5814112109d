use Rattle.std.proofs.Common.{◌≡◌, ◌∷◌, length, reverse, Option, ap, subst, ◌∙◌, arith}
use Rattle.std.proofs.lemmas.Bool.Decides.{nat_tests}
use Rattle.std.proofs.lemmas.List.{length-reverse}
use Rattle.model.specs.Meaning.{means as model-means}
use Rattle.tree.specs.Filter.{Node}
use Rattle.kinds.specs.Problems.{problem}
use Rattle.spaces.specs.declared.base.Top.{Top}
use Rattle.spaces.proofs.Bases.{reverse_push, can_take, cannot_take, never}
use Rattle.recomputing.specs.Walk.{under}
use Rattle.recomputing.specs.Recomputed.{IsSound, Runs, Running, first, recomputing, pile_of, base_of}
use Rattle.recomputing.specs.declared.path.Step.TheVariants.{Take}
use Rattle.recomputing.proofs.Recomputes.{takes-below, path_below, take_begins, take_done}
use Rattle.recomputing.proofs.recomputing.RecomputingSpace.take.Goals as goal

pub returns-in_err-can_take-clause-does : goal.returns-in_err-can_take-clause-does
returns-in_err-can_take-clause-does g c = λ sd.
    let s = c.args.self.now in
    let D = g.K.Kinds.demands in
    let m = model-means s.base.model.now in
    let t = g.T.DomainTable.means s.base.table in
    let ss = reverse s.path in
    let P = problem D m t.width in
    let a = recomputing D m t s.base.top ss in (
      cannot_take a a s.base.top c.nodes.result c.args.x c.args.v t.domains (pile_of s.base.top P (base_of s.base.top t) ss) (under P (first t.saved) ss) c.in_err-can_take.field-0.0 c.from_residual.result
          (λ e. ap (λ (o : Option Top). pile_of o P (base_of o t) ss) e)
          (λ b e. let r : Running D m t b ss = subst (λ (o : Option Top). Runs D m t o ss) e sd.runs in
          ap (λ (o : Option Top). pile_of o P (base_of o t) ss) e ∙ ap (λ (N : Node). N ∷ under P (first t.saved) ss) r.top_is)
          (c.nodes.ensures sd) c.from_residual.ensures.1 (c.in_err-can_take.ensures sd.part),
      sd,
    )

pub returns-then-self-ge-MOST-clause-does : goal.returns-then-self-ge-MOST-clause-does
returns-then-self-ge-MOST-clause-does g c = λ sd.
    let s = c.args.self.now in
    let y = can_take s.base.top c.nodes.result c.args.x c.args.v (g.T.DomainTable.means s.base.table).domains (c.in_ok-can_take.ensures sd.part) in
    let l = takes-below g.K.Kinds.demands (model-means s.base.model.now) (g.T.DomainTable.sound s.base.table) (g.T.DomainTable.means s.base.table) s.takes (reverse s.path) s.base.top c.args.x c.args.v
    (g.T.DomainTable.bounded s.base.table sd.part) sd y.0 y.1 in
    absurd (omega arith)

pub returns-then-is_full-clause-does : goal.returns-then-is_full-clause-does
returns-then-is_full-clause-does g c = λ sd.
    let s = c.args.self.now in
    let y = can_take s.base.top c.nodes.result c.args.x c.args.v (g.T.DomainTable.means s.base.table).domains (c.in_ok-can_take.ensures sd.part) in
    let l = path_below g.K.Kinds.demands (model-means s.base.model.now) (g.T.DomainTable.sound s.base.table) (g.T.DomainTable.means s.base.table) s.takes (reverse s.path) s.base.top c.args.x c.args.v
    (g.T.DomainTable.bounded s.base.table sd.part) sd y.0 y.1 in
    let e = length-reverse s.path in
    let k : length s.path ≡ 4096 = let a = c.is_full.ensures.value in let b = c.if-is_full.true in grind (arith, nat_tests) in
    absurd (omega arith)

pub returns-in_err-filtered : goal.returns-in_err-filtered
returns-in_err-filtered g c =
    let s = c.args.self.now in
    let D = g.K.Kinds.demands in
    let tm = g.T.DomainTable.means in
    let no_way : IsSound g.T.DomainTable.sound D tm s → ⊥ = λ sd.
    let y = can_take s.base.top c.nodes.result c.args.x c.args.v (tm s.base.table).domains (c.in_ok-can_take.ensures sd.part) in
    let q = c.in_ok-keep.ensures.does sd.part in
    let b = take_begins D (model-means s.base.model.now) (g.T.DomainTable.sound s.base.table) (tm s.base.table) s.takes (reverse s.path) s.base.top (tm c.keep.new.self) c.args.x c.args.v c.in_ok-keep.field-0
    (g.T.DomainTable.bounded s.base.table sd.part) sd y.0 q.0 in
    (c.in_err-filtered.ensures.does q.1).0 b.0 b.1 in
    record { does = never no_way; refused = never no_way }

pub returns-clause-does : goal.returns-clause-does
returns-clause-does g c = λ sd.
    let s = c.args.self.now in
    let D = g.K.Kinds.demands in
    let m = model-means s.base.model.now in
    let tm = g.T.DomainTable.means in
    let S = g.T.DomainTable.sound in
    let z = c.filtered.new.self in
    let ss = reverse s.path in
    let y = can_take s.base.top c.nodes.result c.args.x c.args.v (g.T.DomainTable.means s.base.table).domains (c.in_ok-can_take.ensures sd.part) in
    let bd = g.T.DomainTable.bounded s.base.table sd.part in
    let q = c.in_ok-keep.ensures.does sd.part in
    let b = take_begins D m (S s.base.table) (tm s.base.table) s.takes ss s.base.top (tm c.keep.new.self) c.args.x c.args.v c.in_ok-keep.field-0 bd sd y.0 q.0 in
    let f = c.in_ok-filtered.ensures.does q.1 in
    rw c.in_ok-filtered.ensures.model
    (take_done D m (S s.base.table) (tm s.base.table) s.takes ss (S z.table) s.base.top z.top (tm c.keep.new.self) (tm z.table) (reverse c.push.new.self) c.args.x c.args.v c.in_ok-keep.field-0
    bd sd f.1 y.0 y.1 q.0 (f.0 b.0 b.1) (reverse_push s.path c.push.new.self (Take c.args.x c.args.v) c.push.ensures))
