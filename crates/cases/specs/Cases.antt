-- The list of the cases, and what each claims. Assumes nothing.
use Rattle.std.specs.Prelude.{ℕ, Bool, true, ◌&&◌, List, [], ◌∷◌, ℤ, pos, negsuc}
use Rattle.model.specs.declared.values.Window.{Window}
use Rattle.model.specs.declared.values.Term.{Term}
use Rattle.model.specs.Values.{Record, at_most, different}
use Rattle.model.specs.Layout.{encode}
use Rattle.search.specs.declared.search.Answer.TheVariants.{Plan, Done, Spent}
use Rattle.cases.specs.declared.Case.{Case}
use Rattle.cases.specs.declared.Case.TheVariants.{ThirdMarkIsRefused, FiveWordsHoldOneCopy, ThreeWordsHoldNoCopy, TwoApartInSevenNodes, TwoApartByTwos, InOrderInFiveNodes, ThreeApartInTwoValuesAreDone, ThreeApartInTwoValuesAreSpent, TwoApartInOneValueAreDone, OneValueIsAPlan, EmptyWindowIsRefused, LastValueIsHeld, WindowPastTheLastIsRefused, NoBytesAreRefused}
use Rattle.cases.specs.Claims.{Claimed, trail, copies, refused, tree, calls}
use Rattle.cases.specs.Holds.{holds}

-- Models in words, as bytes.

abbrev pub from_to : ℕ → ℕ → Window
from_to low high = record { low = low; high = high }

abbrev pub times : ℤ → ℕ → Term
times a x = record { variable = x; coefficient = a }

abbrev pub model : List Window → List Record → List ℕ
model windows records = encode (record { windows = windows; records = records })

-- One variable, from low to high.
abbrev pub one : ℕ → ℕ → List ℕ
one low high = model (from_to low high ∷ []) []

-- Variables that all differ.
abbrev pub two_apart : List ℕ
two_apart = model (from_to 0 2 ∷ from_to 0 3 ∷ []) (different (0 ∷ 1 ∷ []) ∷ [])

abbrev pub two_in_one_value : List ℕ
two_in_one_value = model (from_to 0 1 ∷ from_to 0 1 ∷ []) (different (0 ∷ 1 ∷ []) ∷ [])

abbrev pub three_in_two_values : List ℕ
three_in_two_values = model (from_to 0 2 ∷ from_to 0 2 ∷ from_to 0 2 ∷ []) (different (0 ∷ 1 ∷ 2 ∷ []) ∷ [])

-- The first less the second is at most -1.
abbrev pub in_order : List ℕ
in_order = model (from_to 0 3 ∷ from_to 0 3 ∷ []) (at_most (negsuc 0) (times (pos 1) 0 ∷ times (negsuc 0) 1 ∷ []) ∷ [])

-- What each case claims. The rule is `first`.
abbrev pub claims : Case → Claimed
claims ThirdMarkIsRefused = trail 2 5 2 12
claims FiveWordsHoldOneCopy = copies 2 5 1
claims ThreeWordsHoldNoCopy = copies 2 3 0
claims TwoApartInSevenNodes = tree two_apart (from_to 0 2 ∷ from_to 0 3 ∷ []) (0 ∷ 1 ∷ 0 ∷ 2 ∷ 1 ∷ 0 ∷ 1 ∷ 2 ∷ []) 7
claims TwoApartByTwos = calls two_apart 2 (Spent 2 ∷ Plan 1 ∷ Plan 1 ∷ Plan 2 ∷ Plan 1 ∷ Done 0 ∷ [])
claims InOrderInFiveNodes = tree in_order (from_to 0 2 ∷ from_to 1 3 ∷ []) (0 ∷ 1 ∷ 0 ∷ 2 ∷ 1 ∷ 2 ∷ []) 5
claims ThreeApartInTwoValuesAreDone = calls three_in_two_values 3 (Done 3 ∷ [])
claims ThreeApartInTwoValuesAreSpent = calls three_in_two_values 2 (Spent 2 ∷ [])
claims TwoApartInOneValueAreDone = calls two_in_one_value 1 (Done 1 ∷ [])
claims OneValueIsAPlan = calls (one 5 6) 1 (Plan 1 ∷ Done 0 ∷ [])
claims EmptyWindowIsRefused = refused (one 10 10) 5 0
claims LastValueIsHeld = tree (one 63 64) (from_to 63 64 ∷ []) (63 ∷ []) 1
claims WindowPastTheLastIsRefused = refused (one 0 65) 5 0
claims NoBytesAreRefused = refused [] 1 0

abbrev pub cases : List Case
cases =
    ThirdMarkIsRefused ∷
    FiveWordsHoldOneCopy ∷
    ThreeWordsHoldNoCopy ∷
    TwoApartInSevenNodes ∷
    TwoApartByTwos ∷
    InOrderInFiveNodes ∷
    ThreeApartInTwoValuesAreDone ∷
    ThreeApartInTwoValuesAreSpent ∷
    TwoApartInOneValueAreDone ∷
    OneValueIsAPlan ∷
    EmptyWindowIsRefused ∷
    LastValueIsHeld ∷
    WindowPastTheLastIsRefused ∷
    NoBytesAreRefused ∷ []

-- The claim of each of these cases holds.
abbrev pub all_hold : List Case → Bool
all_hold [] = true
all_hold (c ∷ cs) = holds (claims c) && all_hold cs
