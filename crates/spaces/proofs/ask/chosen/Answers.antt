use Rattle.std.proofs.Common.{sym, ◌∙◌, ⊎_elim, arith}
use Rattle.spaces.proofs.Opens.{open_from, open_above, open_bound}
use Rattle.spaces.proofs.ask.chosen.Goals as goal

pub returns-in_default-clause-no : goal.returns-in_default-clause-no
returns-in_default-clause-no g c = λ sd e ch.
    let h = open_bound (g.T.DomainTable.means c.args.table.now) c.args.x (g.T.DomainTable.bounded c.args.table.now sd) ch.is_open in
    let k = (c.in_default.ensures sd).0 in
    omega arith

pub returns-in_default-has-clause-no : goal.returns-in_default-has-clause-no
returns-in_default-has-clause-no g c = λ sd e ch.
    let h = (g.T.DomainTable.bounded c.args.table.now sd).within c.args.x c.args.v ch.has in
    ⊎_elim (λ k. omega arith) (λ k. omega arith) (c.in_default-has.ensures sd).0

pub returns-then-size-gt1-clause-yes : goal.returns-then-size-gt1-clause-yes
returns-then-size-gt1-clause-yes g c = λ sd e.
    let h = c.in-Ok-has.ensures sd in
    let k = c.in-Ok.ensures sd in
    record { is_open = open_from (g.T.DomainTable.means c.args.table.now) c.args.x c.in-Ok.size k.1 c.if-size-gt1.true; has = sym h.2 ∙ e }

pub returns-else-size-gt1-clause-no : goal.returns-else-size-gt1-clause-no
returns-else-size-gt1-clause-no g c = λ sd e ch.
    let k = c.in-Ok.ensures sd in
    let b = open_above (g.T.DomainTable.means c.args.table.now) c.args.x c.in-Ok.size (g.T.DomainTable.bounded c.args.table.now sd) k.1 ch.is_open in
    omega arith
