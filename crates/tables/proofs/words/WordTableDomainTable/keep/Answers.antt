use Rattle.std.proofs.Common.{◌≡◌, ℕ, ◌<◌, true, not, ◌&&◌, eqb, get_or, sym, refl, ap, ◌∙◌, ap₂}
use Rattle.std.proofs.lemmas.Bool.{and_parts}
use Rattle.bits.specs.Bit.{has}
use Rattle.tree.specs.Tables.{kept}
use Rattle.tree.proofs.Domains.{has_some_from}
use Rattle.tables.specs.States.{with_domains}
use Rattle.tables.specs.Words.{digits, domains_of, meaning, words_bounded}
use Rattle.tables.proofs.Cells.{none_has_some, kept_alone, kept_cell, meaning_written, room_written}
use Rattle.tables.proofs.words.WordTableDomainTable.keep.Goals as goal

pub returns-then-is_empty-clause-does : goal.returns-then-is_empty-clause-does
returns-then-is_empty-clause-does g c = λ sound.
    let s = c.args.self.now in
    let r = g.S.Store.rows s.store in
    let x = c.args.x in
    let v = c.args.v in
    let cell = c.in_ok-cell.ensures sound.0 sound.1 in
    let T = domains_of s.variables digits r.row in
    let others = λ (u : ℕ). ap₂ (λ d (j : ℕ). d u && not (eqb u j)) (sym cell.1.2) (sym c.from-v.ensures) ∙ sym (c.without.ensures u) ∙ c.if-is_empty.ensures.none refl u in
    ((cell.1.0, cell.0, ap (with_domains (meaning s.variables r)) (kept_alone x v T others), none_has_some (λ u. T x u && not (eqb u v)) digits others), sound)

pub returns-clause-does : goal.returns-clause-does
returns-clause-does g c = λ sound.
    let s = c.args.self.now in
    let r = g.S.Store.rows s.store in
    let t = g.S.Store.rows c.write.new.self in
    let x = c.args.x in
    let v = c.args.v in
    let n = c.only.result.word in
    let cell = c.in_ok-cell.ensures sound.0 sound.1 in
    let did = c.in_ok-write.ensures.does sound.0 in
    let T = domains_of s.variables digits r.row in
    let here : (u : ℕ) → has n u ≡ (has (get_or r.row x 0) u && eqb u v) = λ u. c.only.ensures u ∙ ap₂ (λ (k j : ℕ). has k u && eqb u j) cell.1.1 c.from-v.ensures in
    let other = c.if-is_empty.ensures.some refl in
    let u = other.0 in
    let is : (T x u && not (eqb u v)) ≡ true = ap₂ (λ d (j : ℕ). d u && not (eqb u j)) (sym cell.1.2) (sym c.from-v.ensures) ∙ sym (c.without.ensures u) ∙ other.1 in
    let low : u < digits = ((words_bounded s.variables r sound.1).within x u (and_parts (T x u) (not (eqb u v)) is).0).1 in (
      (
        cell.1.0,
        cell.0,
        meaning_written s.variables r t x n (kept x v T) did.0.1 (kept_cell s.variables digits r.row x n did.0.0 v here),
        sym (has_some_from (λ w. T x w && not (eqb w v)) digits u low is),
      ),
      (did.1, room_written s.variables r t x n did.0.1 sound.1),
    )
