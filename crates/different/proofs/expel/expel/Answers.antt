use Rattle.std.proofs.Common.{ℕ, ◌+◌, ◌<◌, true, false, eqb, get_or, sym, refl, ap, ◌∙◌, subst, ⊎_elim, arith}
use Rattle.std.proofs.lemmas.Bool.{both_ways, or_right, eq-eqb}
use Rattle.bits.specs.Bit.{has}
use Rattle.bits.specs.declared.Set.{Set}
use Rattle.kinds.specs.Demands.{Demand}
use Rattle.tables.specs.States.{TableState}
use Rattle.different.specs.Expels.{Lists, Barred}
use Rattle.kinds.specs.Sofar.{Sofar}
use Rattle.kinds.specs.Listed.{at-among, among-at}
use Rattle.different.proofs.Steps.{Going, going_none, going_skip, going_drop, others_live}
use Rattle.kinds.proofs.Passing.{sofar-drop, drop-none}
use Rattle.different.proofs.expel.expel.Goals as goal
use Rattle.different.proofs.expel.expel.Goals.{then-y-x+in_ok-drop+then-branch+else-not-lives, then-y-x+in_ok-drop+else-branch, else-y-x}

pub loop-y-init : goal.loop-y-init
loop-y-init g c = λ sd. (λ n A s ls lt bar so. going_none n A s _ _ _ _ _ so, sd)

pub returns-in_err-drop : goal.returns-in_err-drop
returns-in_err-drop g c = λ sd.
    let inv = c.loop-y.invariant sd in
    let did = c.in_err-drop.ensures.does inv.1 in
    let xs = c.args.listed.now in
    let y = get_or xs c.loop-y.y-index 0 in (
      λ n A s ls lt bar so.
          let go = inv.0 n A s ls lt bar so in
          absurd (⊎_elim (λ h. omega (arith, h, go.variables, ls.there y (at-among xs c.loop-y.y-index c.loop-y-test.true))) (λ h. omega (arith, h, go.width, lt)) did.0.0),
      did.1,
    )

pub returns-then-not-lives : goal.returns-then-not-lives
returns-then-not-lives g c = λ sd.
    let means = g.T.DomainTable.means in
    let inv = c.loop-y.invariant sd in
    let did = c.in_ok-drop.ensures.does inv.1 in
    let xs = c.args.listed.now in
    let y = get_or xs c.loop-y.y-index 0 in
    let ay = at-among xs c.loop-y.y-index c.loop-y-test.true in
    let t = means c.args.table.now in
    let u = means c.loop-y.table in
    let w = means c.drop.new.self in
    let b = g.T.DomainTable.bounded c.args.table.now sd in (
      λ n A s ls lt bar so.
          let go = inv.0 n A s ls lt bar so in
          record {
            sofar = sofar-drop n A s c.loop-y.found c.with-found.result u w y c.args.v go.sofar (ls.names y ∙ ay) (λ S f st ins. bar S f st ins y ay c.if-y-x.true) (sym did.0.3 ∙ c.if-branch.true) (c.with-found.ensures.within (omega (arith, ls.there y ay, b.few))) did.0.2;
            empty = λ e. (y, ay, c.if-not-lives.ensures did.1, λ z d a. others_live n A s xs c.args.x c.args.v t u w y did.0.2 z d (go.full z a));
            full = λ nf. absurd (both_ways true nf refl);
            none = λ nf. absurd (both_ways true nf refl);
          },
      did.1,
    )

pub loop-y-preserved : goal.loop-y-preserved
loop-y-preserved g c = λ sd.
    let means = g.T.DomainTable.means in
    let inv = c.loop-y.invariant sd in
    let xs = c.args.listed.now in
    let k = c.loop-y.y-index in
    let y = get_or xs k 0 in
    let ay = at-among xs k c.loop-y-test.true in
    let t = means c.args.table.now in
    let u = means c.loop-y.table in
    let x = c.args.x in
    let v = c.args.v in
    let found = c.loop-y.found in
    let b = g.T.DomainTable.bounded c.args.table.now sd in
    let Goal : Set → g.row.T.Denot → Type 0 = λ f z.
    ((n : ℕ) (A : Demand) (s : TableState) → Lists A xs t → v < t.width → Barred n A s xs x v → Sofar n A s c.args.set t → Going n A s xs x v t (k + 1) f (means z)) × g.T.DomainTable.sound z in
    elim c.if-y-x.branch [
      | then-y-x+in_ok-drop+then-branch+else-not-lives w ↦
          let did = w.in_ok-drop.ensures.does inv.1 in
          let z = means w.drop.new.self in
          let more = w.with-found.result in
          subst (λ (f : Set). Goal f c.if-y-x.table) (sym w.found-is) (subst (Goal more) (sym w.table-is) (
            λ n A s ls lt bar so.
                let go = inv.0 n A s ls lt bar so in
                let grown = w.with-found.ensures.within (omega (arith, ls.there y ay, b.few)) in
                let sofar = sofar-drop n A s found more u z y v go.sofar (ls.names y ∙ ay) (λ S f st ins. bar S f st ins y ay w.if-y-x.true) (sym did.0.3 ∙ w.if-branch.true) grown did.0.2 in
                going_drop n A s xs x v t k y found more u z go sofar did.0.2 (w.if-not-lives.ensures did.1) (grown y ∙ or_right (has found.word y) (eqb y y) (eq-eqb y y refl)),
            did.1,
          ))
      | then-y-x+in_ok-drop+else-branch w ↦
          let did = w.in_ok-drop.ensures.does inv.1 in
          let z = means w.drop.new.self in
          let out = sym did.0.3 ∙ w.if-branch.false in
          subst (λ (f : Set). Goal f c.if-y-x.table) (sym w.found-is) (subst (Goal found) (sym w.table-is) (
            λ n A s ls lt bar so.
                going_skip n A s xs x v t k found u z (inv.0 n A s ls lt bar so) (drop-none u z y v out did.0.2) (λ d. out),
            did.1,
          ))
      | else-y-x w ↦
          subst (λ (f : Set). Goal f c.if-y-x.table) (sym w.found-is) (subst (Goal found) (sym w.table-is) (
            λ n A s ls lt bar so.
                going_skip n A s xs x v t k found u u (inv.0 n A s ls lt bar so) refl (λ d. absurd (d w.if-y-x.false)),
            inv.1,
          ))
    ]

pub returns : goal.returns
returns g c = λ sd.
    let inv = c.loop-y.invariant sd in
    let xs = c.args.listed.now in
    let t = g.T.DomainTable.means c.args.table.now in (
      λ n A s ls lt bar so.
          let go = inv.0 n A s ls lt bar so in
          record {
            sofar = go.sofar;
            empty = λ e. absurd (both_ways false refl e);
            full = λ nf. go.full;
            none = λ nf z. let p = go.none z in (
              p.0,
              λ y ay d.
                  let i = among-at xs y ay in
                  ap (λ (j : ℕ). t.domains j c.args.v) (sym i.2) ∙ p.1 i.0 (omega (arith, i.1, c.loop-y-test.false)) (λ q. d (sym i.2 ∙ q)),
            );
          },
      inv.1,
    )
