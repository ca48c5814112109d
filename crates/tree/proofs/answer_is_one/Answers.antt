use Rattle.tree.proofs.Budgets.{scan-answers, scan_only}
use Rattle.tree.proofs.answer_is_one.Goals as goal

pub returns : goal.returns
returns c = λ ns b. (scan-answers ns b, scan_only ns b)
