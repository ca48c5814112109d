use Rattle.std.proofs.Common.{◌≡◌, ◌<◌, true, false, eqb, pos, ◌*ℤ◌, sym, refl, ◌∙◌, subst, ap₂, ⊎_elim, arith, w16, w64, SFits, to_z, of_z, rules}
use lib.Signed.{le_z}
use Rattle.std.proofs.lemmas.Int.{ints, to_z-of_z}
use Rattle.std.proofs.lemmas.Bool.{or_right, eq-eqb}
use Rattle.bits.specs.Bit.{has}
use Rattle.atmost.specs.Trims.{Barred}
use Rattle.atmost.proofs.Parts.{product}
use Rattle.atmost.proofs.Steps.{upward, going_none, going_drop, going_all, far_barred, trim_ends, trim_empty, end-some, end-here, end_none, end_err}
use Rattle.kinds.proofs.Passing.{sofar-drop}
use Rattle.atmost.proofs.narrow.trim.Goals as goal

pub loop-turn-init : goal.loop-turn-init
loop-turn-init g c = λ sd. (λ n A s nm lt bar so. going_none n A s c.args.term (g.T.DomainTable.means c.args.table.now) c.args.set (g.T.DomainTable.bounded c.args.table.now sd) so, sd)

pub returns-in_err-v : goal.returns-in_err-v
returns-in_err-v g c = λ sd.
    let inv = c.loop-turn.invariant sd in (
      λ n A s nm lt bar so.
          let go = inv.0 n A s nm lt (subst (Barred n A s c.args.term) (sym (to_z-of_z w64 c.args.room c.ranges.room)) bar) so in
          let far = end_err (g.T.DomainTable.means c.loop-turn.table) c.args.term.variable (le_z (pos 0) (to_z w16 (of_z w16 c.args.term.coefficient))) c.in_err-v.field-0.0 (c.in_err-v.ensures inv.1) in
          absurd (omega (arith, far, lt, go.variables)),
      inv.1,
    )

pub returns-in_default : goal.returns-in_default
returns-in_default g c = λ sd.
    let inv = c.loop-turn.invariant sd in
    let u = g.T.DomainTable.means c.loop-turn.table in
    let none = end_none u c.args.term.variable (le_z (pos 0) (to_z w16 (of_z w16 c.args.term.coefficient))) c.in_ok-v.field-0 c.in_default.is (c.in_ok-v.ensures inv.1) in (
      λ n A s nm lt bar so.
          let go = inv.0 n A s nm lt (subst (Barred n A s c.args.term) (sym (to_z-of_z w64 c.args.room c.ranges.room)) bar) so in
          trim_empty n A s c.args.term c.args.room (g.T.DomainTable.means c.args.table.now) c.loop-turn._turn c.loop-turn.found u go none,
      inv.1,
    )

pub returns-then-from-room : goal.returns-then-from-room
returns-then-from-room g c = λ sd.
    let inv = c.loop-turn.invariant sd in
    let u = g.T.DomainTable.means c.loop-turn.table in
    let a = c.args.term.coefficient in
    let v = c.in-Some.v in
    let f : SFits w16 a = search rules in
    let l : v < 256 = search rules in
    let is = product a c.from.result c.from-in-loop-turn.result v f l c.from.ensures c.from-in-loop-turn.ensures in
    let test : le_z (a *ℤ pos v) c.args.room ≡ true = sym (ap₂ le_z is (to_z-of_z w64 c.args.room c.ranges.room)) ∙ c.if-from-room.true in
    let end = end-some u c.args.term.variable a (to_z w16 (of_z w16 a)) c.in_ok-v.field-0 v (to_z-of_z w16 a f) c.in-Some.is (c.in_ok-v.ensures inv.1) in (
      λ n A s nm lt bar so.
          let go = inv.0 n A s nm lt (subst (Barred n A s c.args.term) (sym (to_z-of_z w64 c.args.room c.ranges.room)) bar) so in
          trim_ends n A s c.args.term c.args.room (g.T.DomainTable.means c.args.table.now) c.loop-turn._turn c.loop-turn.found u go v end (omega (arith, ints)),
      inv.1,
    )

pub returns-in_err-drop : goal.returns-in_err-drop
returns-in_err-drop g c = λ sd.
    let inv = c.loop-turn.invariant sd in
    let u = g.T.DomainTable.means c.loop-turn.table in
    let a = c.args.term.coefficient in
    let v = c.in-Some.v in
    let f : SFits w16 a = search rules in
    let end = end-some u c.args.term.variable a (to_z w16 (of_z w16 a)) c.in_ok-v.field-0 v (to_z-of_z w16 a f) c.in-Some.is (c.in_ok-v.ensures inv.1) in
    let in-it = (g.T.DomainTable.bounded c.loop-turn.table inv.1).within c.args.term.variable v (end-here u c.args.term.variable (upward a) v end) in
    let did = c.in_err-drop.ensures.does inv.1 in
    (λ n A s nm lt bar so. absurd (⊎_elim (λ h. omega (arith, h, in-it.0)) (λ h. omega (arith, h, in-it.1)) did.0.0), did.1)

pub loop-turn-preserved : goal.loop-turn-preserved
loop-turn-preserved g c = λ sd.
    let inv = c.loop-turn.invariant sd in
    let u = g.T.DomainTable.means c.loop-turn.table in
    let w = g.T.DomainTable.means c.drop.new.self in
    let x = c.args.term.variable in
    let a = c.args.term.coefficient in
    let v = c.in-Some.v in
    let f : SFits w16 a = search rules in
    let l : v < 256 = search rules in
    let is = product a c.from.result c.from-in-loop-turn.result v f l c.from.ensures c.from-in-loop-turn.ensures in
    let test : le_z (a *ℤ pos v) c.args.room ≡ false = sym (ap₂ le_z is (to_z-of_z w64 c.args.room c.ranges.room)) ∙ c.if-from-room.false in
    let end = end-some u x a (to_z w16 (of_z w16 a)) c.in_ok-v.field-0 v (to_z-of_z w16 a f) c.in-Some.is (c.in_ok-v.ensures inv.1) in
    let did = c.in_ok-drop.ensures.does inv.1 in
    let found = c.loop-turn.found in
    let more = c.with-found.result in
    let few = (g.T.DomainTable.bounded c.args.table.now sd).few in (
      λ n A s nm lt bar so.
          let go = inv.0 n A s nm lt bar so in
          let real = subst (Barred n A s c.args.term) (to_z-of_z w64 c.args.room c.ranges.room) bar in
          let grown = c.with-found.ensures.within (omega (arith, lt, few)) in
          let sofar = sofar-drop n A s found more u w x v go.sofar nm (far_barred n A s c.args.term c.args.room v real test) (end-here u x (upward a) v end) grown did.0.2 in
          going_drop n A s c.args.term (g.T.DomainTable.means c.args.table.now) c.loop-turn._turn found more u w v go end sofar did.0.2 (grown x ∙ or_right (has found.word x) (eqb x x) (eq-eqb x x refl)),
      did.1,
    )

pub returns : goal.returns
returns g c = λ sd.
    let inv = c.loop-turn.invariant sd in
    let u = g.T.DomainTable.means c.loop-turn.table in
    let before = g.T.DomainTable.means c.args.table.now in (
      λ n A s nm lt bar so.
          let go = inv.0 n A s nm lt (subst (Barred n A s c.args.term) (sym (to_z-of_z w64 c.args.room c.ranges.room)) bar) so in
          trim_empty n A s c.args.term c.args.room before c.loop-turn._turn c.loop-turn.found u go
          (going_all n A s c.args.term c.args.room before c.loop-turn._turn c.loop-turn.found u go (g.T.DomainTable.bounded c.loop-turn.table inv.1) (omega (arith, c.loop-turn-test.false))),
      inv.1,
    )
