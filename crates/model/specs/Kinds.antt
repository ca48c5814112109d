-- The kinds of records and how their bodies are laid out. Assumes nothing.
use Rattle.std.specs.Prelude.{◌≡◌, ℕ, cond, Ok, Err, Result, Some, None, Option, ◌==◌}
use Rattle.model.specs.declared.form.RecordKind.{RecordKind}
use Rattle.model.specs.declared.form.RecordKind.TheVariants.{Windows, AtMost, Different}
use Rattle.model.specs.declared.form.Shape.{Shape}
use Rattle.model.specs.declared.form.UnknownKind.{UnknownKind}

abbrev pub kind_of : ℕ → Option RecordKind
kind_of k = cond (k == 1) (Some Windows) (cond (k == 2) (Some AtMost) (cond (k == 3) (Some Different) None))

-- The kind with this number, or none has it.
abbrev pub IsKind : ℕ → Result RecordKind UnknownKind → Type 0
IsKind n (Ok k) = kind_of n ≡ Some k
IsKind n (Err e) = kind_of n ≡ None

-- A body is a count, then `before` less 1 further bytes, then `each` bytes for each entry.
abbrev pub shape : RecordKind → Shape
shape Windows = record { least = 1; before = 1; each = 2 }
shape AtMost = record { least = 1; before = 5; each = 3 }
shape Different = record { least = 2; before = 1; each = 1 }
