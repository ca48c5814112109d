use Rattle.std.proofs.Common.{ℕ, ◌+◌, ◌-◌, ◌%◌, Bool, not, ◌&&◌, eqb, get_or, ap, ◌∙◌, subst}
use Rattle.std.proofs.lemmas.Bool.{or_right}
use Rattle.model.specs.Reading.{among}
use Rattle.filtering.specs.Rings.{around, Once}
use Rattle.filtering.proofs.Queues.{around-first, without_first}
use Rattle.filtering.proofs.list.WaitingList.pop.Goals as goal

pub invariant_of-self : goal.invariant_of-self
invariant_of-self c =
    let l = c.self.inside in
    let o = c.self.invariant in
    let item = get_or l.ring (l.head % 64) 0 in
    let r = around l.ring (l.head % 64 + 1) (l.len - 1) in
    let e = around-first l.ring l.head l.len c.if-self-eq0.false in
    let once = subst Once e o.once in
    record {
      set = λ i.
          c.without-self-inside.ensures i ∙
          ap (λ (b : Bool). b && not (eqb i item)) (o.set i ∙ ap (among i) e) ∙
          without_first i (among i r) item (λ h. ap (λ (j : ℕ). among j r) h ∙ once.0);
      once = once.1;
      below = λ i h. o.below i (ap (among i) e ∙ or_right (eqb i item) (among i r) h);
    }

pub returns-clause-pops : goal.returns-clause-pops
returns-clause-pops c = let l = c.self.inside in rw (← c.self.view_is) (around-first l.ring l.head l.len c.if-self-eq0.false)

pub returns-clause-order : goal.returns-clause-order
returns-clause-order c = invariant_of-self c
