use Rattle.std.proofs.Common.{◌≡◌, ℕ, ◌+◌, ◌%◌, ◌<◌, Bool, false, ◌||◌, eqb, List, [], ◌∷◌, ◌++◌, length, set, sym, ap, ◌∙◌, subst, ⊎_elim, arith, rules}
use Rattle.std.proofs.lemmas.Bool.{cond-false, or_cases, eqb-true}
use Rattle.model.specs.Reading.{among}
use Rattle.filtering.specs.Rings.{around, Once}
use Rattle.filtering.proofs.Queues.{around-put, among-end, once-end, room}
use Rattle.filtering.proofs.list.WaitingList.push.Goals as goal

pub overflow_add-at : goal.overflow_add-at
overflow_add-at c =
    let lt = room _ c.args.item c.self.invariant c.if-item-ge-ROOM.false (sym (c.self.invariant.set c.args.item) ∙ sym c.has.ensures ∙ c.if-has.false) in
    omega arith

pub overflow_add-self : goal.overflow_add-self
overflow_add-self c =
    let lt = room _ c.args.item c.self.invariant c.if-item-ge-ROOM.false (sym (c.self.invariant.set c.args.item) ∙ sym c.has.ensures ∙ c.if-has.false) in
    omega arith

-- the record stands behind the others
put : (ring : List ℕ) (head len item : ℕ) → length ring ≡ 64 → len < 64 → around (set ring ((head % 64 + len) % 64) item) head (len + 1) ≡ around ring head len ++ (item ∷ [])
put ring head len item long lt = around-put ring head len item long lt

pub invariant_of-self : goal.invariant_of-self
invariant_of-self c =
    let l = c.self.inside in
    let o = c.self.invariant in
    let item = c.args.item in
    let q = around l.ring l.head l.len in
    let out : among item q ≡ false = sym (o.set item) ∙ sym c.has.ensures ∙ c.if-has.false in
    let long : length l.ring ≡ 64 = search rules in
    let e = put l.ring l.head l.len item long (room _ item o c.if-item-ge-ROOM.false out) in
    let new : List ℕ = around (set l.ring ((l.head % 64 + l.len) % 64) item) l.head (l.len + 1) in
    let same : (i : ℕ) → among i new ≡ (among i q || eqb i item) = λ i. ap (among i) e ∙ among-end i item q in
    record {
      set = λ i. c.with-self-inside.ensures.within c.if-item-ge-ROOM.false i ∙ ap (λ (b : Bool). b || eqb i item) (o.set i) ∙ sym (same i);
      once = subst Once (sym e) (once-end item q o.once out);
      below = λ i h. ⊎_elim (o.below i) (λ k. let j = eqb-true i item k in omega (arith, j, c.if-item-ge-ROOM.false)) (or_cases (among i q) (eqb i item) (sym (same i) ∙ h));
    }

pub returns-clause-waits : goal.returns-clause-waits
returns-clause-waits c = λ lt.
    let l = c.self.inside in
    let o = c.self.invariant in
    let item = c.args.item in
    let q = around l.ring l.head l.len in
    let out : among item q ≡ false = sym (o.set item) ∙ sym c.has.ensures ∙ c.if-has.false in
    let long : length l.ring ≡ 64 = search rules in
    rw (← c.self.view_is) (put l.ring l.head l.len item long (room _ item o lt out) ∙ sym (cond-false (among item q) q (q ++ (item ∷ [])) out))

pub returns-clause-order : goal.returns-clause-order
returns-clause-order c = invariant_of-self c
