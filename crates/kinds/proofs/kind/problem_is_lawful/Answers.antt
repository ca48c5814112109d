use Rattle.kinds.proofs.Validity.{problem-lawful}
use Rattle.kinds.proofs.kind.problem_is_lawful.Goals as goal

pub returns : goal.returns
returns c = problem-lawful
