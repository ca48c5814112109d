use Rattle.std.proofs.Common.{sym, ◌∙◌, ⊎_elim}
use Rattle.std.proofs.lemmas.Bool.{cases_eq}
use Rattle.different.proofs.Steps.{least-some, greatest-some}
use Rattle.different.proofs.expel.alone.Goals as goal

pub returns-else-low-high : goal.returns-else-low-high
returns-else-low-high g c = λ sd v h.
    let s = g.T.DomainTable.means c.args.table.now in
    let low = c.in-Some.low in
    let high = c.in-Some-2.high in
    let is-low = least-some s c.args.x c.in_ok-low.field-0 low c.in-Some.is (c.in_ok-low.ensures sd) in
    let is-high = greatest-some s c.args.x c.in_ok-high.field-0 high c.in-Some-2.is (c.in_ok-high.ensures sd) in
    ⊎_elim (λ q. (high, is-high, λ e. c.if-low-high.false (sym q ∙ sym e))) (λ d. (low, is-low, λ e. d (sym e))) (cases_eq v low)
