-- The published number of each fault, and its place. Assumes nothing.
use Rattle.std.specs.Prelude.{ℕ, List, codes}
use Rattle.model.specs.declared.fault.ModelFault.{ModelFault}
use Rattle.model.specs.declared.fault.ModelFault.TheVariants.{Short, Unknown, Misplaced, Misfit, Window, Variable, Crowded}

abbrev pub number : ModelFault → ℕ
number (Short at) = 1
number (Unknown at) = 2
number (Misplaced at) = 3
number (Misfit at) = 4
number (Window at) = 5
number (Variable at) = 6
number (Crowded at) = 7

abbrev pub place : ModelFault → ℕ
place (Short at) = at
place (Unknown at) = at
place (Misplaced at) = at
place (Misfit at) = at
place (Window at) = at
place (Variable at) = at
place (Crowded at) = at

-- The reason in words, as it is printed.
abbrev pub reason : ModelFault → List ℕ
reason (Short at) = codes "fewer bytes are left than the record has"
reason (Unknown at) = codes "the kind is not known"
reason (Misplaced at) = codes "the windows come first, and once"
reason (Misfit at) = codes "the count is beyond its limits or does not fit the length"
reason (Window at) = codes "a window is empty or reaches past 64"
reason (Variable at) = codes "a variable is not there or comes twice"
reason (Crowded at) = codes "there are too many records or entries"
