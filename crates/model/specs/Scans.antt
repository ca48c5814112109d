-- What the parts of the reader find. Assumes nothing.
use Rattle.std.specs.Prelude.{◌≡◌, ℕ, ◌+◌, ◌*◌, ◌<◌, ◌≤◌, Bool, true, false, List, length, take, Some, Ok, Err, Result}
use Rattle.model.specs.declared.fault.ModelFault.{ModelFault}
use Rattle.model.specs.declared.form.RecordKind.{RecordKind}
use Rattle.model.specs.Faults.{number, place}
use Rattle.model.specs.Kinds.{kind_of, shape}
use Rattle.model.specs.Values.{Value}
use Rattle.model.specs.Reading.{word, count, entry_bytes, entries_in, variable_at, is_named_once, extent, is_misplaced, is_misfit, step, broken, more, read_model, accepted, refused}
use Rattle.model.specs.Drafted.{drafted}
use Rattle.model.specs.Layout.{Bytes}
use Rattle.model.specs.declared.draft.Draft.{Draft}
use Rattle.model.specs.declared.entries.Entries.{Entries}

-- The record is refused whatever was read before it.
abbrev pub Refuses : Bool → ℕ → List ℕ → ModelFault → Type 0
Refuses first at left e = (place e ≡ at) × ((m : Value) → step first m left ≡ broken (number e))

-- The record is there as a whole, of a kind that may stand here, and its length fits its count.
pub record Whole (first : Bool) (left : List ℕ) (k : RecordKind) : Type 0 where
  pub headed : 4 ≤ length left
  pub known : kind_of (word left 2) ≡ Some k
  pub placed : is_misplaced first k ≡ false
  pub ended : extent left ≤ length left
  pub fits : is_misfit k left ≡ false

abbrev pub Opens : Bool → ℕ → List ℕ → Result RecordKind ModelFault → Type 0
Opens first at left (Ok k) = Whole first left k
Opens first at left (Err e) = Refuses first at left e

-- The entries, each of them read by f, and the variables that they name.
abbrev pub read_by : {A : Type 0} → (List ℕ → A) → Entries → List A
read_by f e = entries_in f e.each e.count e.bytes.now

abbrev pub named_in : Entries → List ℕ
named_in = read_by variable_at

-- These are the entries of the record, which is there as a whole.
pub record AreEntriesOf (k : RecordKind) (left : List ℕ) (e : Entries) : Type 0 where
  pub within : 4 + ((shape k).before + (shape k).each * count left) ≤ length left
  pub each : e.each ≡ (shape k).each
  pub number : e.count ≡ count left
  pub bytes : e.bytes.now ≡ take ((shape k).each * count left) (entry_bytes k left)

-- The record was read, which is the next of `left`, and has so many bytes.
pub record Took (first : Bool) (left : List ℕ) (d e : Draft) (size : ℕ) : Type 0 where
  pub step : step first (drafted d) left ≡ more (drafted e)
  pub is : size ≡ extent left
  pub within : size ≤ length left

abbrev pub ReadsRecord : Bool → ℕ → List ℕ → Draft → Draft → Result ℕ ModelFault → Type 0
ReadsRecord first at left d e (Ok size) = Took first left d e size
ReadsRecord first at left d e (Err f) = (place f ≡ at) × (step first (drafted d) left ≡ broken (number f))

abbrev pub ReadsBytes : List ℕ → Result Draft ModelFault → Type 0
ReadsBytes bs (Ok d) = (read_model bs ≡ accepted (drafted d)) × Bytes bs
ReadsBytes bs (Err f) = read_model bs ≡ refused (number f) (place f)

-- The entries have passed every test, and there is room for them.
pub record Ready (d : Draft) (e : Entries) : Type 0 where
  pub room : length d.stored.items < 64
  pub most : length d.terms.items + length d.distinct.items + e.count ≤ 1024
  pub named : is_named_once (length d.windows.items) (named_in e) ≡ true
