-- The number of a record's kind, where there is a record. Assumes nothing.
use Rattle.std.specs.Prelude.{ℕ, Some, None, Option}
use Rattle.model.specs.Values.{Record}
use Rattle.kinds.specs.Demands.{kind_of_record}

abbrev pub numbered : Option Record → Option ℕ
numbered (Some q) = Some (kind_of_record q)
numbered None = None
