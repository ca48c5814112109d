-- What the calls on a model promise. Assumes nothing.
use Rattle.std.specs.Prelude.{◌≡◌, ℕ, List, [], ◌∷◌, Some, None, Ok, Err, Option, Result, ◌≢◌}
use Rattle.std.specs.List.{slice_get}
use Rattle.model.specs.declared.fault.ModelFault.{ModelFault}
use Rattle.model.specs.declared.model.Model.{Model}
use Rattle.model.specs.declared.model.calls.Constraint.{Constraint}
use Rattle.model.specs.declared.model.calls.Constraint.TheVariants.{AtMost, Different}
use Rattle.model.specs.Faults.{number, place}
use Rattle.model.specs.Values.{Value, Record, at_most, different, Valid}
use Rattle.model.specs.Layout.{encode}
use Rattle.model.specs.Reading.{read_model, accepted, refused}
use Rattle.model.specs.Meaning.{means}

-- A place that nothing was read into.
abbrev pub fresh : Value
fresh = record { windows = record { low = 0; high = 1 } ∷ []; records = [] }

-- The bytes encode a valid model, no other has these bytes, and it is what the place holds.
pub record Accepts (bs : List ℕ) (m : Value) : Type 0 where
  pub read : read_model bs ≡ accepted m
  pub valid : Valid m
  pub bytes : encode m ≡ bs
  pub only : (k : Value) → Valid k → encode k ≡ bs → k ≡ m

-- The bytes encode no valid model, and the fault is the first in the order of the rows.
pub record Refuses (bs : List ℕ) (e : ModelFault) : Type 0 where
  pub fault : read_model bs ≡ refused (number e) (place e)
  pub none : (k : Value) → Valid k → encode k ≢ bs

abbrev pub Reads : List ℕ → Model → Model → Result Unit ModelFault → Type 0
Reads bs before after (Ok u) = Accepts bs (means after)
Reads bs before after (Err e) = (after ≡ before) × Refuses bs e

-- The record number i, if there is one.
abbrev pub Shows : List Record → ℕ → Option Constraint → Type 0
Shows rs i (Some (AtMost bound terms)) = slice_get rs i ≡ Some (at_most bound terms.now)
Shows rs i (Some (Different xs)) = slice_get rs i ≡ Some (different xs.now)
Shows rs i None = slice_get rs i ≡ None
