use Rattle.std.proofs.Common.{List, ap, ◌∙◌, arith, w32}
use Rattle.std.proofs.lemmas.Int.{to_z-of_z}
use Rattle.model.specs.Values.{Record}
use Rattle.model.proofs.Drafting.{added, added_held, sum_adds, variables-below}
use Rattle.model.proofs.draft.Draft.add_sum.Goals as goal

pub note_names-requires : goal.note_names-requires
note_names-requires c = (omega (arith, c.requires.1.room, c.len.ensures.value), variables-below c.args.self.now _ c.requires.1.named)

pub invariant_of-self : goal.invariant_of-self
invariant_of-self c =
    let d = c.args.self.now in
    added_held d _ _ _ _ _ _ (sum_adds d c.args.terms.now c.requires.1 _ _ c.len.ensures.value _ _ (c.note_names.auto.naming ∙ d.long) c.note_names.ensures _ _ _ (to_z-of_z w32 c.args.bound c.ranges.bound) c.len-from.ensures.value c.push.ensures.items c.fill.ensures)

pub returns : goal.returns
returns c =
    let d = c.args.self.now in
    ap
    (λ (rs : List Record). record { windows = d.windows.items; records = rs })
    (added d _ _ _ _ _ _ (sum_adds d c.args.terms.now c.requires.1 _ _ c.len.ensures.value _ _ (c.note_names.auto.naming ∙ d.long) c.note_names.ensures _ _ _ (to_z-of_z w32 c.args.bound c.ranges.bound) c.len-from.ensures.value c.push.ensures.items c.fill.ensures))
