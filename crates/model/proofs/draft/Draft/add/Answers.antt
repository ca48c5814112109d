use Rattle.std.proofs.Common.{◌≡◌, ℕ, List, ℤ, sym, ap, ◌∙◌, ap₂, subst, arith, w32, to_z, of_z}
use Rattle.std.proofs.lemmas.List.{take_rest}
use Rattle.std.proofs.lemmas.Int.{to_z-of_z}
use Rattle.model.specs.declared.form.RecordKind.{RecordKind}
use Rattle.model.specs.declared.form.RecordKind.TheVariants.{AtMost, Different}
use Rattle.model.specs.declared.entries.Entries.{Entries}
use Rattle.model.specs.declared.values.Term.{Term}
use Rattle.model.specs.Values.{at_most, different}
use Rattle.model.specs.Fronts.{ReadsFront, term_front}
use Rattle.model.specs.Reading.{long, term_at, bound_in, extended, with_record}
use Rattle.model.specs.Drafted.{drafted}
use Rattle.model.specs.Scans.{AreEntriesOf}
use Rattle.model.proofs.Heads.{long-later}
use Rattle.model.proofs.Steps.{entries-are, names_are}
use Rattle.model.proofs.draft.Draft.add.Goals as goal

-- the entries of a sum, and those of a list
of : (k j : RecordKind) (left : List ℕ) (e : Entries) → j ≡ k → AreEntriesOf j left e → AreEntriesOf k left e
of k j left e q a = subst (λ (i : RecordKind). AreEntriesOf i left e) q a

pub slice_bounds-long-start : goal.slice_bounds-long-start
slice_bounds-long-start c = omega (arith, (of AtMost _ _ _ c.in-AtMost.is c.requires.1).within)

pub returns-in-AtMost : goal.returns-in-AtMost
returns-in-AtMost c =
    let m = drafted c.args.self.now in
    let left = c.args.left.now in
    let e = c.args.entries.now in
    let a = of AtMost _ _ _ c.in-AtMost.is c.requires.1 in
    let front : ReadsFront e.each term_at = λ xs ys l. term_front xs ys (l ∙ a.each) in
    let bound : to_z w32 (of_z w32 c.cast_signed.result) ≡ bound_in left = to_z-of_z w32 c.cast_signed.result (record { sfits = c.cast_signed.type_inv }) ∙ c.cast_signed.ensures ∙ ap (to_z w32) (c.long.ensures ∙ ap (λ (bs : List ℕ). long bs 0) (take_rest left 5) ∙ long-later left 5) in
    c.add_sum.ensures
    ∙ ap₂ (λ (b : ℤ) (ts : List Term). with_record m (at_most b ts)) bound (entries-are term_at AtMost left e front a)
    ∙ ap (λ (k : RecordKind). extended k m left) (sym c.in-AtMost.is)

pub returns-in-Different : goal.returns-in-Different
returns-in-Different c =
    let m = drafted c.args.self.now in
    let left = c.args.left.now in
    let a = of Different _ _ _ c.in-Different.is c.requires.1 in
    c.add_listed.ensures
    ∙ ap (λ (xs : List ℕ). with_record m (different xs)) (names_are Different left c.args.entries.now a)
    ∙ ap (λ (k : RecordKind). extended k m left) (sym c.in-Different.is)
