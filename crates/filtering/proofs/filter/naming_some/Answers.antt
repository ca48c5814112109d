use Rattle.std.proofs.Common.{◌≡◌, ℕ, ◌^◌, ◌<◌, eqb, false, sym, refl, ap, ◌∙◌, ⊎_elim, rules}
use Rattle.std.proofs.lemmas.Bool.{both_ways, or_cases, or_parts, or_left, or_right, eqb-true, eq-eqb}
use Rattle.std.proofs.lemmas.Iterator.Consumers.{YieldsList-from_first, YieldsList-end}
use Rattle.bits.specs.Bit.{has, members}
use Rattle.bits.specs.declared.Members.{Members}
use Rattle.bits.proofs.Digits.{member_below}
use Rattle.model.specs.Drafts.{does_name}
use Rattle.model.specs.Reading.{among}
use Rattle.model.specs.Meaning.{records}
use Rattle.filtering.proofs.Listing.{listed-member, member-listed, map-same}
use Rattle.filtering.proofs.Queues.{among-end}
use Rattle.filtering.proofs.filter.naming_some.Goals as goal

pub loop-x-preserved : goal.loop-x-preserved
loop-x-preserved c =
    let rs = records c.args.model.now in
    let x = c.in-Some.x in
    let ys = c.loop-x.yielded in
    let inv = c.loop-x.invariant in
    let old = has c.loop-x.found.word in
    let new = has c.naming.result.word in
    let u = c.union-found.ensures in
    record {
      some = λ i h. ⊎_elim
          (λ k. let p = inv.some i k in (p.0, among-end p.0 x ys ∙ or_left (among p.0 ys) (eqb p.0 x) p.1, p.2))
          (λ k. (x, among-end x x ys ∙ or_right (among x ys) (eqb x x) (eq-eqb x x refl), sym (c.naming.ensures i) ∙ k))
          (or_cases (old i) (new i) (sym (u i) ∙ h));
      none = λ i h y v.
          let p = or_parts (old i) (new i) (sym (u i) ∙ h) in
          ⊎_elim (λ a. inv.none i p.0 y a) (λ e. ap (does_name rs i) (eqb-true y x e) ∙ sym (c.naming.ensures i) ∙ p.1) (or_cases (among y ys) (eqb y x) (sym (among-end y x ys) ∙ v));
    }

pub returns : goal.returns
returns c =
    let w = c.args.variables.word in
    let fits : w < 2 ^ 64 = search rules in
    let e = ap (λ (m : Members). members m.left.word) (c.into_iter-x-iterator.ensures.into_iter_gives ∙ c.members-x-items.ensures) in
    let y = YieldsList-from_first (λ (x : ℕ). x) (λ (m : Members). members m.left.word) (members w) e in
    let d = YieldsList-end y c.loop-x.yielded _ c.loop-x.yielded_by _ _ c.in-None.is c.next.ensures.steps in
    let all : c.loop-x.yielded ≡ members w = sym (map-same c.loop-x.yielded) ∙ d.0 in
    let inv = c.loop-x.invariant in
    record {
      some = λ i h. let p = inv.some i h in (p.0, (listed-member w p.0 (sym (ap (among p.0) all) ∙ p.1)).0, p.2);
      none = λ i h x v. inv.none i h x (ap (among x) all ∙ member-listed w x (member_below 64 w x fits v) v);
    }
