use Rattle.std.proofs.Common.{refl}
use Rattle.tables.specs.Words.{digits}
use Rattle.cases.specs.Holds.{holds}
use Rattle.cases.proofs.Each.{each}
use Rattle.cases.proofs.cases_hold.Goals as goal

pub returns : goal.returns
unfolding holds digits
returns c = record { listed = refl; each = each }
