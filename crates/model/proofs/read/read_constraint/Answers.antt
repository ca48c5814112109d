use Rattle.std.proofs.Common.{◌≡◌, ℕ, ◌+◌, ◌&&◌, ltb, leb, List, length, sym, refl, ap, ◌∙◌, ap₂, arith}
use Rattle.model.specs.declared.draft.Draft.{Draft}
use Rattle.model.specs.Values.{entries}
use Rattle.model.specs.Reading.{count, is_named_once, more}
use Rattle.model.specs.Drafted.{drafted}
use Rattle.model.proofs.Drafting.{drafted-records}
use Rattle.model.proofs.Steps.{crowded_step, variable-step, record_step, names_are}
use Rattle.model.proofs.read.read_constraint.Goals as goal

-- the room in the draft, as the rows ask for it
room : (d : Draft) (left : List ℕ) (n : ℕ) → n ≡ count left → (ltb (length (drafted d).records) 64 && leb (entries (drafted d).records + count left) 1024) ≡ (ltb (length d.stored.items) 64 && leb (length d.terms.items + length d.distinct.items + n) 1024)
room d left n e = ap₂ (λ (a b : ℕ). ltb a 64 && leb b 1024) (drafted-records d) (ap₂ (λ (a b : ℕ). a + b) d.entries (sym e))

pub returns-then-not-has_room : goal.returns-then-not-has_room
returns-then-not-has_room c =
    let d = c.args.draft.now in
    let left = c.args.left.now in
    (refl, crowded_step left c.in_ok-kind.kind c.in_ok-kind.ensures.opens (drafted d) (room d left _ c.of-entries.ensures.number ∙ sym c.if-not-has_room.ensures))

pub returns-then-not-named_once : goal.returns-then-not-named_once
returns-then-not-named_once c =
    let d = c.args.draft.now in
    let left = c.args.left.now in
    let k = c.in_ok-kind.kind in
    let a = c.of-entries.ensures in
    let named = c.if-not-named_once.ensures ∙ ap₂ (λ (n : ℕ) (xs : List ℕ). is_named_once n xs) c.len.ensures.value (names_are k left _ a) in
    (refl, variable-step left (drafted d) (room d left _ a.number ∙ sym c.if-not-has_room.ensures) k c.in_ok-kind.ensures.opens (sym named))

pub returns : goal.returns
returns c =
    let d = c.args.draft.now in
    let left = c.args.left.now in
    let k = c.in_ok-kind.kind in
    let a = c.of-entries.ensures in
    let w = c.in_ok-kind.ensures.opens in
    let named = c.if-not-named_once.ensures ∙ ap₂ (λ (n : ℕ) (xs : List ℕ). is_named_once n xs) c.len.ensures.value (names_are k left _ a) in
    record {
      step = record_step left (drafted d) (room d left _ a.number ∙ sym c.if-not-has_room.ensures) k w (sym named) ∙ ap more (sym c.add.ensures);
      is = ap (λ (n : ℕ). 4 + n) c.word.ensures;
      within = omega (arith, w.ended, c.word.ensures);
    }
