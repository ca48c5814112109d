-- What the layers over a store mean: the depth under a ceiling, and the counts of a tally. It assumes nothing.
use Rattle.std.specs.Prelude.{ℕ, ◌+◌, min, Ok, Err, Result}
use Rattle.stores.specs.declared.tally.Counts.{Counts}
use Rattle.stores.specs.Rows.{Rows}

-- the depth cut to at most c
abbrev pub lowered : ℕ → Rows → Rows
lowered c s = record { row = s.row; saved = s.saved; depth = min s.depth c }

-- a count goes up by one and stops at the largest u32
abbrev pub up : ℕ → ℕ
up n = min (n + 1) 4294967295

-- the counts after a write, a mark and a restore; a refused call counts for nothing
abbrev pub wrote : {T E : Type 0} → Result T E → Counts → Counts
wrote (Ok x) n = record { writes = up n.writes; marks = n.marks; restores = n.restores }
wrote (Err e) n = n

abbrev pub marked : {T E : Type 0} → Result T E → Counts → Counts
marked (Ok x) n = record { writes = n.writes; marks = up n.marks; restores = n.restores }
marked (Err e) n = n

abbrev pub restored : {T E : Type 0} → Result T E → Counts → Counts
restored (Ok x) n = record { writes = n.writes; marks = n.marks; restores = up n.restores }
restored (Err e) n = n
