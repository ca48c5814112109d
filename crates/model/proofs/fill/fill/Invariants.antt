use Rattle.std.proofs.Common.{◌≡◌, ℕ, ◌+◌, ◌*◌, ◌≤◌, ◌++◌, length}
use Rattle.std.specs.Slice.Iter.{chunks_exact_rest, chunks_exact_size}
use Rattle.model.specs.Reading.{entries_in}
use Rattle.model.proofs.fill.fill.Given as goal

abbrev pub invariant-loop-entry : goal.invariant-loop-entry
invariant-loop-entry g l =
    let rest = chunks_exact_rest l.entry-iterator in
    record {
      size : chunks_exact_size l.entry-iterator ≡ l.entries.each;
      left : ℕ;
      whole : length rest ≡ l.entries.each * left;
      room : length l.items.items + left ≤ g.row.MOST;
      read : l.items.items ++ entries_in g.E.Entry.read l.entries.each left rest ≡ l.initial.items.items ++ entries_in g.E.Entry.read l.entries.each l.entries.count l.entries.bytes.now;
    }
