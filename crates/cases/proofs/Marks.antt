-- Marks as a function are marks as a relation. Assumes nothing.
use Rattle.std.proofs.Common.{length, Ok, Err}
use Rattle.std.proofs.lemmas.Bool.{lt-ltb, le-ltb}
use Rattle.cases.specs.Marks.{MarksCompute}

pub marks_compute_lem : MarksCompute
marks_compute_lem s t (Ok u) h = rw (lt-ltb (length s.saved) s.depth h.0) h.1
marks_compute_lem s t (Err e) h = rw (le-ltb (length s.saved) s.depth h.0) h.1
