use Rattle.std.proofs.Common.{◌+◌, ℤ, sym, refl, subst, w32}
use Rattle.std.proofs.lemmas.Int.{to_z-of_z}
use Rattle.model.specs.Values.{at_most}
use Rattle.kinds.specs.declared.shrunk.Shrunk.TheVariants.{Live, Failed}
use Rattle.kinds.specs.Demands.{demand_of}
use Rattle.atmost.specs.Linear.{term, stable, meets}
use Rattle.atmost.specs.Laws.{term-listed}
use Rattle.atmost.proofs.Parts.{rest_fits, room_fits, room_is}
use Rattle.atmost.proofs.Steps.{Main, main_trim, main_stable, room_of, trimmable}
use Rattle.kinds.proofs.Passing.{not_both, passed_empty, passed_full}
use Rattle.atmost.proofs.narrow.narrow.Goals as goal

pub returns-in_default-low : goal.returns-in_default-low
returns-in_default-low g c = λ sd.
    let u = g.T.DomainTable.means c.loop-term.table in
    let ts = c.args.terms.now in
    let k = c.loop-term.term-index in
    let x = (term ts k).variable in
    let inv = c.loop-term.invariant sd in
    let live = (c.in-Some.ensures.value sd).0 in
    (λ n small. absurd (not_both u.domains x ((inv.0 n small live).full x (live x (term-listed ts k c.loop-term-test.true))) (c.in_default-low.ensures.value inv.1)), inv.1)

pub overflow_sub-total : goal.overflow_sub-total
overflow_sub-total g c = rest_fits c.in-Some.total c.in-Some-low.part (c.in-Some.ensures.bound c.in-Some.total refl) (c.in-Some-low.ensures.bound c.in-Some-low.part refl)

pub overflow_sub-from : goal.overflow_sub-from
overflow_sub-from g c = room_fits c.in-Some.total c.in-Some-low.part (c.in-Some.ensures.bound c.in-Some.total refl) (c.in-Some-low.ensures.bound c.in-Some-low.part refl) c.args.bound c.from.result c.ranges.bound c.from.ensures

pub returns-in_err-found : goal.returns-in_err-found
returns-in_err-found g c = λ sd.
    let s = g.T.DomainTable.means c.args.table.now in
    let u = g.T.DomainTable.means c.loop-term.table in
    let ts = c.args.terms.now in
    let k = c.loop-term.term-index in
    let b = c.args.bound in
    let set = c.loop-term.set in
    let l = c.loop-term-test.true in
    let A = demand_of stable meets s.width (at_most b ts) in
    let inv = c.loop-term.invariant sd in
    let total = c.in-Some.total in
    let part = c.in-Some-low.part in
    let whole = c.in-Some.ensures.value sd in
    let own = c.in-Some-low.ensures.value inv.1 in
    let is = room_is total part (c.in-Some.ensures.bound total refl) (c.in-Some-low.ensures.bound part refl) b c.from.result c.ranges.bound c.from.ensures in
    let bs = g.T.DomainTable.bounded c.args.table.now sd in
    let bu = g.T.DomainTable.bounded c.loop-term.table inv.1 in
    let did = c.in_err-found.ensures inv.1 in (
      λ n small.
          let m = subst (λ (y : ℤ). Main n ts y s k set u) (to_z-of_z w32 b c.ranges.bound) (inv.0 n small whole.0) in
          let room = room_of n ts b s k set u total part _ m whole.1 own.1 is in
          let t = trimmable n ts b s k set u _ bs bu l small m own.0 room in
          absurd (did.0 n A s t.names t.there t.barred t.sofar),
      did.1,
    )

pub returns-in-Failed : goal.returns-in-Failed
returns-in-Failed g c = λ sd.
    let s = g.T.DomainTable.means c.args.table.now in
    let u = g.T.DomainTable.means c.loop-term.table in
    let z = g.T.DomainTable.means c.trim.new.table in
    let ts = c.args.terms.now in
    let k = c.loop-term.term-index in
    let b = c.args.bound in
    let set = c.loop-term.set in
    let l = c.loop-term-test.true in
    let A = demand_of stable meets s.width (at_most b ts) in
    let inv = c.loop-term.invariant sd in
    let total = c.in-Some.total in
    let part = c.in-Some-low.part in
    let whole = c.in-Some.ensures.value sd in
    let own = c.in-Some-low.ensures.value inv.1 in
    let is = room_is total part (c.in-Some.ensures.bound total refl) (c.in-Some-low.ensures.bound part refl) b c.from.result c.ranges.bound c.from.ensures in
    let bs = g.T.DomainTable.bounded c.args.table.now sd in
    let bu = g.T.DomainTable.bounded c.loop-term.table inv.1 in
    let did = (rw c.in-Failed.is at c.in_ok-found.ensures) inv.1 in (
      λ n small.
          let m = subst (λ (y : ℤ). Main n ts y s k set u) (to_z-of_z w32 b c.ranges.bound) (inv.0 n small whole.0) in
          let room = room_of n ts b s k set u total part _ m whole.1 own.1 is in
          let t = trimmable n ts b s k set u _ bs bu l small m own.0 room in
          let e = did.0 n A s t.names t.there t.barred t.sofar in
          passed_empty n A s (Failed c.in-Failed.found) z (term ts k).variable e.sofar whole.0 refl (term-listed ts k l) (e.empty refl) (λ y ay d. e.apart y d (m.full y (whole.0 y ay))),
      did.1,
    )

pub loop-term-preserved : goal.loop-term-preserved
loop-term-preserved g c = λ sd.
    let s = g.T.DomainTable.means c.args.table.now in
    let u = g.T.DomainTable.means c.loop-term.table in
    let z = g.T.DomainTable.means c.trim.new.table in
    let ts = c.args.terms.now in
    let k = c.loop-term.term-index in
    let b = c.args.bound in
    let set = c.loop-term.set in
    let l = c.loop-term-test.true in
    let A = demand_of stable meets s.width (at_most b ts) in
    let inv = c.loop-term.invariant sd in
    let total = c.in-Some.total in
    let part = c.in-Some-low.part in
    let whole = c.in-Some.ensures.value sd in
    let own = c.in-Some-low.ensures.value inv.1 in
    let is = room_is total part (c.in-Some.ensures.bound total refl) (c.in-Some-low.ensures.bound part refl) b c.from.result c.ranges.bound c.from.ensures in
    let bs = g.T.DomainTable.bounded c.args.table.now sd in
    let bu = g.T.DomainTable.bounded c.loop-term.table inv.1 in
    let did = (rw c.in-Live.is at c.in_ok-found.ensures) inv.1 in
    let r = Live c.in-Live.found in (
      λ n small live.
          let m = subst (λ (y : ℤ). Main n ts y s k set u) (to_z-of_z w32 b c.ranges.bound) (inv.0 n small live) in
          let room = room_of n ts b s k set u total part _ m whole.1 own.1 is in
          let t = trimmable n ts b s k set u _ bs bu l small m own.0 room in
          let e = did.0 n A s t.names t.there t.barred t.sofar in
          subst (λ (y : ℤ). Main n ts y s (k + 1) c.in-Live.found z) (sym (to_z-of_z w32 b c.ranges.bound)) (main_trim n ts b s k set u _ r z l m room e refl),
      did.1,
    )

pub returns : goal.returns
returns g c = λ sd.
    let s = g.T.DomainTable.means c.args.table.now in
    let u = g.T.DomainTable.means c.loop-term.table in
    let ts = c.args.terms.now in
    let k = c.loop-term.term-index in
    let b = c.args.bound in
    let set = c.loop-term.set in
    let A = demand_of stable meets s.width (at_most b ts) in
    let inv = c.loop-term.invariant sd in
    let whole = c.in-Some.ensures.value sd in (
      λ n small.
          let m = subst (λ (y : ℤ). Main n ts y s k set u) (to_z-of_z w32 b c.ranges.bound) (inv.0 n small whole.0) in
          passed_full n A s (Live set) u m.sofar whole.0 refl (λ y ay. m.full y (whole.0 y ay)) (main_stable n ts b s k set u c.loop-term-test.false m),
      inv.1,
    )
