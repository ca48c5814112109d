-- What the answer of a pass says. Assumes nothing.
use Rattle.std.specs.Prelude.{Bool, true, false}
use Rattle.bits.specs.declared.Set.{Set}
use Rattle.kinds.specs.declared.shrunk.Shrunk.{Shrunk}
use Rattle.kinds.specs.declared.shrunk.Shrunk.TheVariants.{Live, Failed}

-- the variables whose domain got smaller
abbrev pub set_of : Shrunk → Set
set_of (Live set) = set
set_of (Failed set) = set

-- whether a domain of the record is empty or missing
abbrev pub has_failed : Shrunk → Bool
has_failed (Live set) = false
has_failed (Failed set) = true
