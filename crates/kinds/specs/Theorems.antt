-- What is proved of every set of kinds. Assumes nothing.
use Rattle.std.specs.Prelude.{◌≡◌, ℕ, true}
use Rattle.tree.specs.Filter.{Lawful}
use Rattle.model.specs.Values.{Value}
use Rattle.model.specs.Reading.{is_valid}
use Rattle.kinds.specs.Demands.{Demands}
use Rattle.kinds.specs.Laws.{LawfulKinds}
use Rattle.kinds.specs.Problems.{problem}

-- The problem that a valid model and lawful kinds make is lawful, for every width.
abbrev pub ProblemIsLawful : Type 0
ProblemIsLawful = (D : Demands) (m : Value) (w : ℕ) → LawfulKinds D → is_valid m ≡ true → Lawful (problem D m w)
