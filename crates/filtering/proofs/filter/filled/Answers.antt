use Rattle.std.proofs.Common.{ℕ, Ok, Option, subst, arith, below_more}
use Rattle.tables.specs.Calls.{Leasts}
use Rattle.filtering.proofs.filter.filled.Goals as goal

pub loop-x-preserved : goal.loop-x-preserved
loop-x-preserved g c = λ sd.
    let s = g.T.DomainTable.means c.args.table.now in
    below_more _ _ (c.loop-x.invariant sd)
    (c.in-Some.field-0, (subst (λ (z : Option ℕ). Leasts s c.loop-x.x (Ok z)) c.in-Some.is (c.in_ok-least.ensures sd)).1.0)
