use Rattle.std.proofs.Common.{◌≡◌, ◌^◌, ◌<◌, sym, ap, ◌∙◌, subst, rules}
use Rattle.bits.specs.Bit.{has}
use Rattle.bits.specs.declared.Set.{Set}
use Rattle.tables.specs.Words.{digits, digits_are}
use Rattle.tables.proofs.Cells.{cell_is_domain}
use Rattle.tables.proofs.words.WordTable.cell.Goals as goal

pub returns : goal.returns
returns g c = λ sound room.
    let read = c.in_ok-read.ensures sound in
    let word = c.in_ok-read.field-0 in
    let cells = (g.S.Store.rows c.args.self.now.store).row in
    let fits : word < 2 ^ 64 = search rules in
    let is : c.from.result.word ≡ word = ap (λ (s : Set). s.word) c.from.ensures in
    (c.if-x-self.false, is ∙ read.1, ap has is ∙ cell_is_domain c.args.self.now.variables digits cells c.args.x word c.if-x-self.false (subst (λ k. word < 2 ^ k) (sym digits_are) fits) read.1)
