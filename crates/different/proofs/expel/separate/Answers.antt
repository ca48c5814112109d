use Rattle.std.proofs.Common.{◌≡◌, ℕ, ◌+◌, ◌<◌, ◌≤◌, Bool, true, ◌||◌, List, length, get_or, sym, refl, ap, ◌∙◌, subst, arith}
use Rattle.bits.specs.Bit.{has}
use Rattle.bits.specs.declared.Set.{Set}
use Rattle.model.specs.Reading.{among}
use Rattle.model.specs.Values.{different}
use Rattle.tables.specs.States.{TableState, Bounds}
use Rattle.kinds.specs.declared.shrunk.Shrunk.TheVariants.{Live, Failed}
use Rattle.kinds.specs.Demands.{demand_of}
use Rattle.kinds.specs.Passes.{Alive}
use Rattle.kinds.proofs.Passing.{passed_still, passed_empty, passed_full}
use Rattle.different.specs.Different.{stable, meets}
use Rattle.different.specs.Expels.{Lists}
use Rattle.kinds.specs.Listed.{at-among, among-at}
use Rattle.different.proofs.Steps.{Main, main_none, main_skip, main_expel, barred, all_clear, crowds_some, crowds_none, seen_none, seen_more}
use Rattle.different.proofs.expel.separate.Goals as goal
use Rattle.different.proofs.expel.separate.Goals.{in-Some+in_ok-found+in-Live, in_default}

-- all listed variables have a value
living : (xs : List ℕ) (s : TableState) (k : ℕ) → length xs ≤ k → ((j : ℕ) → j < k → Alive s.domains (get_or xs j 0)) → (x : ℕ) → among x xs ≡ true → Alive s.domains x
living xs s k l f x ax = let i = among-at xs x ax in subst (Alive s.domains) i.2 (f i.0 (omega (arith, i.1, l)))

-- so the table has them, as long as only values are taken away
lists : (xs : List ℕ) (s u : TableState) → Bounds s → u.variables ≡ s.variables → ((x : ℕ) → among x xs ≡ true → Alive s.domains x) → Lists (demand_of stable meets s.width (different xs)) xs u
lists xs s u b e f = record { names = λ y. refl; there = λ y ay. let a = f y ay in omega (arith, (b.within y a.0 a.1).0, e) }

pub returns-then-is_empty : goal.returns-then-is_empty
returns-then-is_empty g c = λ sd.
    let s = g.T.DomainTable.means c.args.table.now in
    let xs = c.args.listed.now in
    (λ n small. passed_still n (demand_of stable meets s.width (different xs)) s (Failed c.empty.result) (get_or xs c.loop-x.x-index 0) c.empty.ensures refl (at-among xs c.loop-x.x-index c.loop-x-test.true) (λ v. ap (λ (d : ℕ → Bool). d v) (sym (c.held-domain.ensures sd)) ∙ c.if-is_empty.ensures.none refl v), sd)

pub loop-x-init : goal.loop-x-init
loop-x-init g c = λ sd. seen_none (g.T.DomainTable.means c.args.table.now) c.args.listed.now _ _

pub loop-x-preserved : goal.loop-x-preserved
loop-x-preserved g c = λ sd.
    let s = g.T.DomainTable.means c.args.table.now in
    let domain = has c.held-domain.result.word in
    let is = c.held-domain.ensures sd in
    let some = c.if-is_empty.ensures.some refl in
    seen_more s c.args.listed.now c.loop-x.x-index (has c.loop-x.once.word) (has c.loop-x.twice.word) domain (has c.union-once.result.word) (has c.union-twice.result.word) (c.loop-x.invariant sd) is
    (some.0, ap (λ (d : ℕ → Bool). d some.0) (sym is) ∙ some.1) c.union-once.ensures
    (λ v. c.union-twice.ensures v ∙ ap (λ (b : Bool). has c.loop-x.twice.word v || b) (c.common.ensures v))

pub loop-x-2-init : goal.loop-x-2-init
loop-x-2-init g c = λ sd.
    let s = g.T.DomainTable.means c.args.table.now in
    let xs = c.args.listed.now in
    (λ n small live. main_none n (demand_of stable meets s.width (different xs)) s xs c.empty-set.result c.empty-set.ensures, sd)

pub loop-x-2-preserved : goal.loop-x-2-preserved
loop-x-2-preserved g c = λ sd.
    let means = g.T.DomainTable.means in
    let s = means c.args.table.now in
    let xs = c.args.listed.now in
    let A = demand_of stable meets s.width (different xs) in
    let b = g.T.DomainTable.bounded c.args.table.now sd in
    let inv = c.loop-x-2.invariant sd in
    let t = means c.loop-x-2.table in
    let k = c.loop-x-2.x-index in
    let x = get_or xs k 0 in
    let ax = at-among xs k c.loop-x-2-test.true in
    let set = c.loop-x-2.set in
    let Goal : Set → g.row.T.Denot → Type 0 = λ f z.
    ((n : ℕ) → ((x : ℕ) → among x xs ≡ true → x < n) → ((x : ℕ) → among x xs ≡ true → Alive s.domains x) → Main n A s xs (k + 1) f (means z)) × g.T.DomainTable.sound z in
    elim c.match-branch-2.branch [
      | in-Some+in_ok-found+in-Live w ↦
          let v = w.in-Some.v in
          let al = crowds_some t x (has c.loop-x.twice.word) c.in_ok-v.field-0 v w.in-Some.is (c.in_ok-v.ensures inv.1) in
          let did = (rw w.in-Live.is at w.in_ok-found.ensures) inv.1 in
          let r = Live w.in-Live.found in
          let width = ((g.T.DomainTable.bounded c.loop-x-2.table inv.1).within x v al.0).1 in
          subst (λ (f : Set). Goal f c.match-branch-2.table) (sym w.set-is) (subst (Goal w.in-Live.found) (sym w.table-is) (
            λ n small live.
                let m = inv.0 n small live in
                let same = ap (λ (z : TableState). z.variables) m.sofar.narrows.others in
                main_expel n A s xs k v set t r (means w.expel.new.table) m al.1
                (did.0 n A s (lists xs s t b same live) width (barred n s xs b set x v t small ax m.sofar al.1) m.sofar) refl,
            did.1,
          ))
      | in_default w ↦
          subst (λ (f : Set). Goal f c.match-branch-2.table) (sym w.set-is) (subst (Goal set) (sym w.table-is) (
            λ n small live.
                let m = inv.0 n small live in
                main_skip n A s xs k set t m (crowds_none s t x (has c.loop-x.once.word) (has c.loop-x.twice.word) c.in_ok-v.field-0 xs c.loop-x.x-index w.in_default.is (c.in_ok-v.ensures inv.1) (c.loop-x.invariant sd) c.loop-x-test.false ax m.sofar.narrows.inside),
            inv.1,
          ))
    ]

pub returns-in_err-v : goal.returns-in_err-v
returns-in_err-v g c = λ sd.
    let means = g.T.DomainTable.means in
    let s = means c.args.table.now in
    let xs = c.args.listed.now in
    let inv = c.loop-x-2.invariant sd in
    let t = means c.loop-x-2.table in
    let k = c.loop-x-2.x-index in
    let live = living xs s c.loop-x.x-index c.loop-x-test.false (c.loop-x.invariant sd).live in
    let b = g.T.DomainTable.bounded c.args.table.now sd in (
      λ n small.
          let m = inv.0 n small live in
          let same = ap (λ (z : TableState). z.variables) m.sofar.narrows.others in
          absurd (omega (arith, c.in_err-v.ensures inv.1, (lists xs s t b same live).there (get_or xs k 0) (at-among xs k c.loop-x-2-test.true))),
      inv.1,
    )

pub returns-in_err-found : goal.returns-in_err-found
returns-in_err-found g c = λ sd.
    let means = g.T.DomainTable.means in
    let s = means c.args.table.now in
    let xs = c.args.listed.now in
    let A = demand_of stable meets s.width (different xs) in
    let inv = c.loop-x-2.invariant sd in
    let t = means c.loop-x-2.table in
    let k = c.loop-x-2.x-index in
    let x = get_or xs k 0 in
    let v = c.in-Some.v in
    let live = living xs s c.loop-x.x-index c.loop-x-test.false (c.loop-x.invariant sd).live in
    let b = g.T.DomainTable.bounded c.args.table.now sd in
    let al = crowds_some t x (has c.loop-x.twice.word) c.in_ok-v.field-0 v c.in-Some.is (c.in_ok-v.ensures inv.1) in
    let did = c.in_err-found.ensures inv.1 in
    let width = ((g.T.DomainTable.bounded c.loop-x-2.table inv.1).within x v al.0).1 in (
      λ n small.
          let m = inv.0 n small live in
          let same = ap (λ (z : TableState). z.variables) m.sofar.narrows.others in
          absurd (did.0 n A s (lists xs s t b same live) width (barred n s xs b c.loop-x-2.set x v t small (at-among xs k c.loop-x-2-test.true) m.sofar al.1) m.sofar),
      did.1,
    )

pub returns-in-Failed : goal.returns-in-Failed
returns-in-Failed g c = λ sd.
    let means = g.T.DomainTable.means in
    let s = means c.args.table.now in
    let xs = c.args.listed.now in
    let A = demand_of stable meets s.width (different xs) in
    let inv = c.loop-x-2.invariant sd in
    let t = means c.loop-x-2.table in
    let u = means c.expel.new.table in
    let k = c.loop-x-2.x-index in
    let x = get_or xs k 0 in
    let v = c.in-Some.v in
    let live = living xs s c.loop-x.x-index c.loop-x-test.false (c.loop-x.invariant sd).live in
    let b = g.T.DomainTable.bounded c.args.table.now sd in
    let al = crowds_some t x (has c.loop-x.twice.word) c.in_ok-v.field-0 v c.in-Some.is (c.in_ok-v.ensures inv.1) in
    let did = (rw c.in-Failed.is at c.in_ok-found.ensures) inv.1 in
    let width = ((g.T.DomainTable.bounded c.loop-x-2.table inv.1).within x v al.0).1 in (
      λ n small.
          let m = inv.0 n small live in
          let same = ap (λ (z : TableState). z.variables) m.sofar.narrows.others in
          let e = did.0 n A s (lists xs s t b same live) width (barred n s xs b c.loop-x-2.set x v t small (at-among xs k c.loop-x-2-test.true) m.sofar al.1) m.sofar in
          let d = e.empty refl in
          passed_empty n A s (Failed c.in-Failed.found) u d.0 e.sofar live refl d.1 d.2 (λ y ay ne. d.3 y ne (m.full y (live y ay))),
      did.1,
    )

pub returns : goal.returns
returns g c = λ sd.
    let means = g.T.DomainTable.means in
    let s = means c.args.table.now in
    let xs = c.args.listed.now in
    let A = demand_of stable meets s.width (different xs) in
    let inv = c.loop-x-2.invariant sd in
    let t = means c.loop-x-2.table in
    let set = c.loop-x-2.set in
    let live = living xs s c.loop-x.x-index c.loop-x-test.false (c.loop-x.invariant sd).live in
    let b = g.T.DomainTable.bounded c.args.table.now sd in (
      λ n small.
          let m = inv.0 n small live in
          passed_full n A s (Live set) t m.sofar live refl (λ y ay. m.full y (live y ay)) (λ z.
          let p = m.none z in
          subst (λ (q : TableState). A.stable q.domains ≡ true) (sym p.0) (all_clear n s xs b c.loop-x-2.x-index c.loop-x-2-test.false p.1)),
      inv.1,
    )
