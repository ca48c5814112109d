use Rattle.std.proofs.Common.{◌≡◌, ℕ, not, ◌&&◌, eqb, get_or, ◌∙◌, ap₂}
use Rattle.bits.specs.Bit.{has}
use Rattle.tree.specs.Tables.{dropped}
use Rattle.tables.specs.Words.{digits, domains_of}
use Rattle.tables.proofs.Cells.{dropped_cell, meaning_written, room_written}
use Rattle.tables.proofs.words.WordTableDomainTable.drop.Goals as goal

pub returns-clause-does : goal.returns-clause-does
returns-clause-does g c = λ sound.
    let s = c.args.self.now in
    let r = g.S.Store.rows s.store in
    let t = g.S.Store.rows c.write.new.self in
    let x = c.args.x in
    let v = c.args.v in
    let n = c.without.result.word in
    let cell = c.in_ok-cell.ensures sound.0 sound.1 in
    let did = c.in_ok-write.ensures.does sound.0 in
    let here : (u : ℕ) → has n u ≡ (has (get_or r.row x 0) u && not (eqb u v)) = λ u. c.without.ensures u ∙ ap₂ (λ (k j : ℕ). has k u && not (eqb u j)) cell.1.1 c.from-v.ensures in (
      (
        cell.1.0,
        cell.0,
        meaning_written s.variables r t x n (dropped x v (domains_of s.variables digits r.row)) did.0.1 (dropped_cell s.variables digits r.row x n did.0.0 v here),
        c.if-not-has.ensures ∙ ap₂ (λ d (u : ℕ). d u) cell.1.2 c.from-v.ensures,
      ),
      (did.1, room_written s.variables r t x n did.0.1 sound.1),
    )
