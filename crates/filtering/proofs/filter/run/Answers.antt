use Rattle.std.proofs.Common.{◌+◌, ◌<◌, length, sym, refl, ap, ◌∙◌, subst, arith}
use Rattle.std.specs.List.{slice_get}
use Rattle.bits.specs.Bit.{members}
use Rattle.model.specs.Meaning.{means as model-means, windows, records}
use Rattle.tables.specs.States.{TableState}
use Rattle.kinds.specs.declared.shrunk.Shrunk.TheVariants.{Live, Failed}
use Rattle.kinds.specs.Problems.{asks, together}
use Rattle.kinds.proofs.Validity.{model_laws, demanded-below}
use Rattle.filtering.specs.declared.list.WaitingList.{WaitingList}
use Rattle.filtering.proofs.Listing.{listed-member, not-listed, does_name-below}
use Rattle.filtering.proofs.Rounds.{Mid, at_first, same_width, narrowed_none, narrowed_on, none_mid, some_mid, none-fits, done, filled_true, filled_false}
use Rattle.filtering.proofs.filter.run.Goals as goal
use Rattle.filtering.proofs.filter.run.Goals.{then-not-is_empty, else-not-is_empty}

pub returns-then-not-branch : goal.returns-then-not-branch
returns-then-not-branch g c = λ idle sd.
    let m = c.args.model.now in
    let s = g.T.DomainTable.means c.args.table.now in
    let A = asks g.K.Kinds.demands (model-means m) s.width in
    let laws = model_laws g.K.Kinds.demands (model-means m) s.width g.met.K.Kinds.lawful m.valid in
    let f = filled_false s c.in_ok-filled.field-0 c.if-not-branch.true (c.in_ok-filled.ensures sd) in (
      λ vs b.
          let l : f.0 < A.variables = omega (arith, f.1, vs) in
          (narrowed_none A laws s, none-fits A laws s s (narrowed_none A laws s) f.0 l f.2, (f.0, l, f.2)),
      sd,
    )

pub returns-in_default : goal.returns-in_default
returns-in_default g c = λ idle sd.
    let m = c.args.model.now in
    let s = g.T.DomainTable.means c.args.table.now in
    let t = g.T.DomainTable.means c.loop-round.table in
    let A = asks g.K.Kinds.demands (model-means m) s.width in
    let laws = model_laws g.K.Kinds.demands (model-means m) s.width g.met.K.Kinds.lawful m.valid in
    let full = filled_true s c.in_ok-filled.field-0 c.if-not-branch.false (c.in_ok-filled.ensures sd) in
    let inv = c.loop-round.invariant sd in (
      λ vs b.
          let mid0 = at_first A laws (records m) s c.args.start c.first.result.word c.args.list.now c.wake.new.list refl vs refl (g.T.DomainTable.bounded c.args.table.now sd) full b c.first.ensures.begins c.first.ensures.below idle c.wake.ensures in
          let mid = inv.0 vs mid0 in
          (mid.narrowed, done A laws s t c.loop-round.list c.loop-round._round mid c.in_default.ensures.pops.0),
      inv.1,
    )

pub returns-in-Failed : goal.returns-in-Failed
returns-in-Failed g c = λ idle sd.
    let m = c.args.model.now in
    let D = g.K.Kinds.demands in
    let s = g.T.DomainTable.means c.args.table.now in
    let t = g.T.DomainTable.means c.loop-round.table in
    let u = g.T.DomainTable.means c.pass.new.table in
    let A = asks D (model-means m) s.width in
    let laws = model_laws D (model-means m) s.width g.met.K.Kinds.lawful m.valid in
    let full = filled_true s c.in_ok-filled.field-0 c.if-not-branch.false (c.in_ok-filled.ensures sd) in
    let inv = c.loop-round.invariant sd in
    let item = c.in-Some.item in
    let r = Failed c.in-Failed.field-0 in
    let did = (rw c.in-Failed.is at c.in_ok-shrunk.ensures) inv.1 in (
      λ vs b.
          let mid0 = at_first A laws (records m) s c.args.start c.first.result.word c.args.list.now c.wake.new.list refl vs refl (g.T.DomainTable.bounded c.args.table.now sd) full b c.first.ensures.begins c.first.ensures.below idle c.wake.ensures in
          let mid = inv.0 vs mid0 in
          let pops = c.in-Some.ensures.pops in
          let p = same_width D (length (windows m)) (slice_get (records m) item) (together A) s t u r mid.narrowed did.0 in
          let narrowed = narrowed_on A laws s t c.loop-round.list c.pop.new.self c.loop-round._round item mid pops u r p in
          let e = p.empty refl in
          let l = demanded-below D (model-means m) s.width item e.0 g.met.K.Kinds.lawful m.valid e.1 in
          (narrowed, none-fits A laws s u narrowed e.0 l e.2, (e.0, l, e.2)),
      did.1,
    )

pub loop-round-preserved : goal.loop-round-preserved
loop-round-preserved g c = λ sd.
    let m = c.args.model.now in
    let D = g.K.Kinds.demands in
    let s = g.T.DomainTable.means c.args.table.now in
    let t = g.T.DomainTable.means c.loop-round.table in
    let u = g.T.DomainTable.means c.pass.new.table in
    let A = asks D (model-means m) s.width in
    let laws = model_laws D (model-means m) s.width g.met.K.Kinds.lawful m.valid in
    let inv = c.loop-round.invariant sd in
    let item = c.in-Some.item in
    let r = Live c.in-Live.shrunk in
    let did = (rw c.in-Live.is at c.in_ok-shrunk.ensures) inv.1 in
    let bounds = g.T.DomainTable.bounded c.loop-round.table inv.1 in (
      λ vs mid0.
          let mid = inv.0 vs mid0 in
          let pops = c.in-Some.ensures.pops in
          let p = same_width D (length (windows m)) (slice_get (records m) item) (together A) s t u r mid.narrowed did.0 in
          let l = c.loop-round.list in
          let k = c.pop.new.self in
          let round = c.loop-round._round in
          let Goal : WaitingList → Type 0 = λ z. Mid A s u z (round + 1) in
          elim c.if-not-is_empty.branch [
            | then-not-is_empty w ↦
                let names = w.naming_some.ensures in
                let R = w.naming_some.result.word in
                subst Goal (sym w.list-is)
                (some_mid A laws s t l k round item mid pops u r p
                (ap (λ (z : TableState). z.variables) mid.narrowed.others ∙ vs) (ap (λ (z : TableState). z.width) mid.narrowed.others) bounds (c.is_empty.ensures.some w.if-not-is_empty.true)
                w.wake-then-not-is_empty.new.list (members R)
                (λ i h n. names.none i (not-listed R i (omega (arith, h, laws.few)) n))
                (λ i h. let n = names.some i (listed-member R i h).0 in does_name-below (records m) i n.0 n.2)
                refl w.wake-then-not-is_empty.ensures)
            | else-not-is_empty w ↦
                subst Goal (sym w.list-is) (none_mid A laws s t l k round item mid pops u r p (c.is_empty.ensures.none w.if-not-is_empty.false) refl)
          ],
      did.1,
    )

pub returns : goal.returns
returns g c = λ idle sd.
    let m = c.args.model.now in
    let s = g.T.DomainTable.means c.args.table.now in
    let A = asks g.K.Kinds.demands (model-means m) s.width in
    let laws = model_laws g.K.Kinds.demands (model-means m) s.width g.met.K.Kinds.lawful m.valid in
    let full = filled_true s c.in_ok-filled.field-0 c.if-not-branch.false (c.in_ok-filled.ensures sd) in
    let inv = c.loop-round.invariant sd in (
      λ vs b.
          let mid0 = at_first A laws (records m) s c.args.start c.first.result.word c.args.list.now c.wake.new.list refl vs refl (g.T.DomainTable.bounded c.args.table.now sd) full b c.first.ensures.begins c.first.ensures.below idle c.wake.ensures in
          absurd (omega (arith, (inv.0 vs mid0).enough, c.loop-round-test.false)),
      inv.1,
    )
