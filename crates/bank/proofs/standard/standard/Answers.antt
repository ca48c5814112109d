use Rattle.bank.proofs.Standards.{every_record}
use Rattle.bank.proofs.standard.standard.Goals as goal

pub returns : goal.returns
returns c = every_record
