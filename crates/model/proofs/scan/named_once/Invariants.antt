use Rattle.std.proofs.Common.{◌≡◌, ℕ, ◌*◌, ◌&&◌, length}
use Rattle.std.specs.Slice.Iter.{chunks_exact_rest, chunks_exact_size}
use Rattle.bits.specs.Bit.{has}
use Rattle.model.specs.Reading.{variables_in, is_named_once}
use Rattle.model.proofs.Scanning.{is_fresh}
use Rattle.model.proofs.scan.named_once.Given as goal

abbrev pub invariant-loop-entry : goal.invariant-loop-entry
invariant-loop-entry l =
    let rest = chunks_exact_rest l.entry-iterator in
    record {
      size : chunks_exact_size l.entry-iterator ≡ l.entries.each;
      left : ℕ;
      whole : length rest ≡ l.entries.each * left;
      named : (is_fresh (has l.seen.word) (variables_in l.entries.each left rest) && is_named_once l.variables (variables_in l.entries.each left rest)) ≡ is_named_once l.variables (variables_in l.entries.each l.entries.count l.entries.bytes.now);
    }
