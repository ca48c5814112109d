use Rattle.std.proofs.Common.{◌≡◌, ℕ, ◌*◌, ◌<◌, length}
use Rattle.std.specs.List.{AllByRecursion}
use Rattle.std.specs.Slice.Iter.{chunks_exact_rest, chunks_exact_size}
use Rattle.model.specs.Reading.{variables_in}
use Rattle.model.proofs.Filling.{noted}
use Rattle.model.proofs.fill.note_names.Given as goal

abbrev pub invariant-loop-entry : goal.invariant-loop-entry
invariant-loop-entry l =
    let rest = chunks_exact_rest l.entry-iterator in
    record {
      size : chunks_exact_size l.entry-iterator ≡ l.entries.each;
      left : ℕ;
      whole : length rest ≡ l.entries.each * left;
      below : AllByRecursion (λ x. x < length l.initial.naming) (variables_in l.entries.each left rest);
      same : (x r : ℕ) → x < length l.initial.naming → noted l.naming l.«record» (variables_in l.entries.each left rest) x r ≡ noted l.initial.naming l.«record» (variables_in l.entries.each l.entries.count l.entries.bytes.now) x r;
    }
