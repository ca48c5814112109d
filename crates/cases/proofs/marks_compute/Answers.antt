use Rattle.cases.proofs.Marks.{marks_compute_lem}
use Rattle.cases.proofs.marks_compute.Goals as goal

pub returns : goal.returns
returns c = marks_compute_lem
