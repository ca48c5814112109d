use Rattle.std.proofs.Common.{ℕ, List, length, sym, ap, ◌∙◌}
use Rattle.std.proofs.lemmas.Iterator.Consumers.{YieldsList-from_first, YieldsList-turn, YieldsList-end}
use Rattle.bits.specs.Bit.{members}
use Rattle.bits.specs.declared.Members.{Members}
use Rattle.filtering.specs.Waits.{queue, behind, woken}
use Rattle.filtering.proofs.Listing.{item-below, map-same}
use Rattle.filtering.proofs.Queues.{woken-end}
use Rattle.filtering.proofs.filter.wake.Goals as goal

pub loop-i-preserved : goal.loop-i-preserved
loop-i-preserved c =
    let e = ap (λ (m : Members). members m.left.word) (c.into_iter-i-iterator.ensures.into_iter_gives ∙ c.members-i-items.ensures) in
    let y = YieldsList-from_first (λ (x : ℕ). x) (λ (m : Members). members m.left.word) (members c.args.set.word) e in
    let t = YieldsList-turn y c.loop-i.yielded _ c.loop-i.yielded_by _ _ c.in-Some.i c.in-Some.is c.next.ensures.steps in
    c.push.ensures.waits (item-below c.args.set.word (length c.loop-i.yielded) c.in-Some.i t).0 ∙
    ap (λ (q : List ℕ). behind q c.in-Some.i) c.loop-i.invariant ∙
    sym (woken-end c.loop-i.yielded c.in-Some.i (queue c.args.list.now))
