use Rattle.std.proofs.Common.{ℕ, ◌+◌, ◌≤◌, length, ℤ, ◌+ℤ◌, sym, refl, ap, ◌∙◌, subst, ⊎_elim, arith, w64, SFits, to_z, of_z}
use Rattle.std.proofs.lemmas.Int.{ints, to_z-of_z}
use Rattle.atmost.specs.Linear.{term}
use Rattle.atmost.specs.Trims.{SmallSum}
use Rattle.atmost.specs.Laws.{term-listed}
use Rattle.atmost.proofs.Parts.{plus, small-fits, small_more, sum_fits, lows_more, listed_more}
use Rattle.atmost.proofs.narrow.total.Goals as goal

pub returns-in_err-sum-clause-value : goal.returns-in_err-sum-clause-value
returns-in_err-sum-clause-value g c = λ sd. rw c.from_residual.ensures
    ((term c.args.terms.now c.loop-term.term-index).variable, term-listed c.args.terms.now c.loop-term.term-index c.loop-term-test.true, c.in_err-sum.ensures.value sd)

pub overflow_add-sum : goal.overflow_add-sum
overflow_add-sum g c =
    let k = c.loop-term.term-index in
    let sum = c.loop-term.sum in
    let part = c.in_ok-sum.field-0 in
    let few : length c.args.terms.now ≤ 64 = c.requires in
    let small = c.in_ok-sum.ensures.bound part refl in
    let more = small_more k sum part (subst (SmallSum k) c.loop-term.sum-is c.loop-term.invariant.0) small in
    let f = sum_fits (k + 1) (sum +ℤ part) (omega (arith, few, c.loop-term-test.true)) more in
    subst (λ (x : ℤ). SFits w64 (x +ℤ to_z w64 (of_z w64 part))) (sym c.loop-term.sum-is) (subst (λ (y : ℤ). SFits w64 (sum +ℤ y)) (sym (to_z-of_z w64 part (small-fits part small))) f)

pub loop-term-preserved : goal.loop-term-preserved
loop-term-preserved g c =
    let k = c.loop-term.term-index in
    let sum = c.loop-term.sum in
    let part = c.in_ok-sum.field-0 in
    let ts = c.args.terms.now in
    let few : length c.args.terms.now ≤ 64 = c.requires in
    let s = g.T.DomainTable.means c.args.table.now in
    let small = c.in_ok-sum.ensures.bound part refl in
    let more = small_more k sum part (subst (SmallSum k) c.loop-term.sum-is c.loop-term.invariant.0) small in
    let f = sum_fits (k + 1) (sum +ℤ part) (omega (arith, few, c.loop-term-test.true)) more in
    let is = plus _ sum part c.loop-term.sum-is (small-fits part small) f in (
      subst (SmallSum (k + 1)) (sym is) more,
      λ sd.
          let inv = c.loop-term.invariant.1 sd in
          let p = c.in_ok-sum.ensures.value sd in (
            λ x h. ⊎_elim (λ q. inv.0 x q) (λ q. (p.0.0, ap (λ (y : ℕ). s.domains y p.0.0) q ∙ p.0.1)) (listed_more ts k x c.loop-term-test.true h),
            is ∙ omega (arith, ints, sym c.loop-term.sum-is ∙ inv.1, p.1, lows_more s.width s.domains ts k c.loop-term-test.true),
          ),
    )
