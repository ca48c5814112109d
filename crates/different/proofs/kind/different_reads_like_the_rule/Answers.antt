use Rattle.different.proofs.Laws.{reads}
use Rattle.different.proofs.kind.different_reads_like_the_rule.Goals as goal

pub returns : goal.returns
returns c = reads
