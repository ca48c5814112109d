-- Each case holds, by computing. Assumes nothing.
use Rattle.std.proofs.Common.{◌≡◌, true, refl}
use Rattle.tables.specs.Words.{digits}
use Rattle.cases.specs.declared.Case.{Case}
use Rattle.cases.specs.declared.Case.TheVariants.{ThirdMarkIsRefused, FiveWordsHoldOneCopy, ThreeWordsHoldNoCopy, TwoApartInSevenNodes, TwoApartByTwos, InOrderInFiveNodes, ThreeApartInTwoValuesAreDone, ThreeApartInTwoValuesAreSpent, TwoApartInOneValueAreDone, OneValueIsAPlan, EmptyWindowIsRefused, LastValueIsHeld, WindowPastTheLastIsRefused, NoBytesAreRefused}
use Rattle.cases.specs.Cases.{claims}
use Rattle.cases.specs.Holds.{holds}

pub each : (c : Case) → holds (claims c) ≡ true
unfolding holds digits
each ThirdMarkIsRefused = refl
each FiveWordsHoldOneCopy = refl
each ThreeWordsHoldNoCopy = refl
each TwoApartInSevenNodes = refl
each TwoApartByTwos = refl
each InOrderInFiveNodes = refl
each ThreeApartInTwoValuesAreDone = refl
each ThreeApartInTwoValuesAreSpent = refl
each TwoApartInOneValueAreDone = refl
each OneValueIsAPlan = refl
each EmptyWindowIsRefused = refl
each LastValueIsHeld = refl
each WindowPastTheLastIsRefused = refl
each NoBytesAreRefused = refl
