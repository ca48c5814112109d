use Rattle.std.proofs.Common.{sym, ◌∙◌, ap₂}
use Rattle.bits.specs.Bit.{has}
use Rattle.tree.specs.Domains.{size}
use Rattle.tables.specs.Words.{digits_are}
use Rattle.tables.proofs.Cells.{counted_size}
use Rattle.tables.proofs.words.WordTableDomainTable.size.Goals as goal

pub returns : goal.returns
returns g c = λ sound.
    let cell = c.in_ok-cell.ensures sound.0 sound.1 in
    (cell.0, c.size.ensures ∙ counted_size (has c.in_ok-cell.field-0.word) 64 ∙ ap₂ size cell.2 (sym digits_are))
