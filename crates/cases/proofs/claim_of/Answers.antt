use Rattle.std.proofs.Common.{sym, ap}
use Rattle.cases.specs.Cases.{claims}
use Rattle.cases.proofs.claim_of.Goals as goal

pub returns-in-TwoApartInSevenNodes : goal.returns-in-TwoApartInSevenNodes
returns-in-TwoApartInSevenNodes c = sym (ap claims c.in-TwoApartInSevenNodes.is)

pub returns-in-TwoApartByTwos : goal.returns-in-TwoApartByTwos
returns-in-TwoApartByTwos c = sym (ap claims c.in-TwoApartByTwos.is)

pub returns-in-InOrderInFiveNodes : goal.returns-in-InOrderInFiveNodes
returns-in-InOrderInFiveNodes c = sym (ap claims c.in-InOrderInFiveNodes.is)

pub returns-in-TwoApartInOneValueAreDone : goal.returns-in-TwoApartInOneValueAreDone
returns-in-TwoApartInOneValueAreDone c = sym (ap claims c.in-TwoApartInOneValueAreDone.is)
