use Rattle.std.proofs.Common.{◌≡◌, ℕ, ◌*◌, length}
use Rattle.std.specs.Slice.Iter.{chunks_exact_rest, chunks_exact_size}
use Rattle.model.specs.Reading.{windows_in, do_windows_fit}
use Rattle.model.proofs.scan.windows_fit.Given as goal

abbrev pub invariant-loop-window : goal.invariant-loop-window
invariant-loop-window l = record {
  size : chunks_exact_size l.window-iterator ≡ 2;
  left : ℕ;
  whole : length (chunks_exact_rest l.window-iterator) ≡ 2 * left;
  fit : do_windows_fit (windows_in left (chunks_exact_rest l.window-iterator)) ≡ do_windows_fit (windows_in l.windows.count l.windows.bytes.now);
}
