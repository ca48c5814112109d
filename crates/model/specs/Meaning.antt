-- What a model means. Assumes nothing.
use Rattle.std.specs.Prelude.{List}
use Rattle.model.specs.declared.model.Model.{Model}
use Rattle.model.specs.declared.values.Window.{Window}
use Rattle.model.specs.Drafted.{drafted}
use Rattle.model.specs.Values.{Value, Record}

abbrev pub means : Model → Value
means m = drafted m.draft

abbrev pub windows : Model → List Window
windows m = (means m).windows

abbrev pub records : Model → List Record
records m = (means m).records
