use Rattle.atmost.proofs.Laws.{reads}
use Rattle.atmost.proofs.kind.at_most_reads_like_the_rule.Goals as goal

pub returns : goal.returns
returns c = reads
