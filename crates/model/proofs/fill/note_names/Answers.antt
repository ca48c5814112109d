use Rattle.std.proofs.Common.{◌≡◌, ℕ, ◌<◌, List, ◌∷◌, length, get_or, sym, ap, ◌∙◌, subst, arith}
use Rattle.std.specs.List.{AllByRecursion}
use Rattle.std.specs.Slice.Iter.{chunks_exact_rest}
use Rattle.bits.specs.declared.Set.{Set}
use Rattle.model.specs.Reading.{variables_in}
use Rattle.model.proofs.Fronts.{next_variable}
use Rattle.model.proofs.Filling.{noted, noted-next}
use Rattle.model.proofs.fill.note_names.Goals as goal

-- the variable at hand has its set
there : (old : List Set) (xs ys : List ℕ) (x : ℕ) → AllByRecursion (λ y. y < length old) xs → xs ≡ x ∷ ys → (x < length old) × AllByRecursion (λ y. y < length old) ys
there old xs ys x b e = subst (AllByRecursion (λ y. y < length old)) e b

pub slice_copy_out-set : goal.slice_copy_out-set
slice_copy_out-set c =
    let e = c.args.entries.now in
    let i = c.loop-entry.invariant in
    let s = c.in-Some.ensures.steps.1 in
    let q = next_variable e.each e.some i.left _ _ _ i.whole s.0 (s.1 ∙ i.size) in
    let h = there c.args.naming.now _ _ _ i.below q.reads in
    omega (arith, h.0, c.loop-entry.auto.naming)

pub bounds-naming-x : goal.bounds-naming-x
bounds-naming-x c =
    let e = c.args.entries.now in
    let i = c.loop-entry.invariant in
    let s = c.in-Some.ensures.steps.1 in
    let q = next_variable e.each e.some i.left _ _ _ i.whole s.0 (s.1 ∙ i.size) in
    let h = there c.args.naming.now _ _ _ i.below q.reads in
    omega (arith, h.0, c.loop-entry.auto.naming)

pub loop-entry-preserved : goal.loop-entry-preserved
loop-entry-preserved c =
    let e = c.args.entries.now in
    let i = c.loop-entry.invariant in
    let s = c.in-Some.ensures.steps.1 in
    let q = next_variable e.each e.some i.left _ _ _ i.whole s.0 (s.1 ∙ i.size) in
    let h = there c.args.naming.now _ _ _ i.below q.reads in
    let sets = c.loop-entry.naming in
    let x = get_or c.in-Some.entry.now 0 0 in
    let rest = variables_in e.each q.left (chunks_exact_rest c.next.new.self) in
    record {
      size = c.in-Some.ensures.steps.0 ∙ i.size;
      left = q.left;
      whole = q.whole;
      below = h.1;
      same = λ y r l. noted-next sets c.args.record x c.with.result rest (omega (arith, h.0, c.loop-entry.auto.naming)) (c.with.ensures.within c.requires.0) y r ∙ ap (λ (xs : List ℕ). noted sets c.args.record xs y r) (sym q.reads) ∙ i.same y r l;
    }
