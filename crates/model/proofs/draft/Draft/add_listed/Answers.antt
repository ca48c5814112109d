use Rattle.std.proofs.Common.{List, ap, ◌∙◌, arith}
use Rattle.model.specs.Values.{Record}
use Rattle.model.proofs.Drafting.{added, added_held, list_adds, variables-below}
use Rattle.model.proofs.draft.Draft.add_listed.Goals as goal

pub note_names-requires : goal.note_names-requires
note_names-requires c = (omega (arith, c.requires.1.room, c.len.ensures.value), variables-below c.args.self.now _ c.requires.1.named)

pub invariant_of-self : goal.invariant_of-self
invariant_of-self c =
    let d = c.args.self.now in
    added_held d _ _ _ _ _ _ (list_adds d c.args.variables.now c.requires.1 _ _ c.len.ensures.value _ _ (c.note_names.auto.naming ∙ d.long) c.note_names.ensures _ c.len-from.ensures.value c.push.ensures.items c.fill.ensures)

pub returns : goal.returns
returns c =
    let d = c.args.self.now in
    ap
    (λ (rs : List Record). record { windows = d.windows.items; records = rs })
    (added d _ _ _ _ _ _ (list_adds d c.args.variables.now c.requires.1 _ _ c.len.ensures.value _ _ (c.note_names.auto.naming ∙ d.long) c.note_names.ensures _ c.len-from.ensures.value c.push.ensures.items c.fill.ensures))
