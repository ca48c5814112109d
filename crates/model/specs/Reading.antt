-- How model bytes are read: record by record, each row of faults in its order. Assumes nothing.
use Rattle.std.specs.Prelude.{ℕ, zero, suc, ◌+◌, ◌*◌, Bool, true, false, cond, not, ◌&&◌, ◌||◌, List, [], ◌∷◌, ◌++◌, length, drop, ℤ, Some, None, Option, ◌==◌, nat_le, nat_lt, slice_index}
use Rattle.std.specs.Int.{w16, w32}
use Rattle.std.proofs.Common.{to_z}
use Rattle.model.specs.declared.form.RecordKind.{RecordKind}
use Rattle.model.specs.declared.form.RecordKind.TheVariants.{Windows, AtMost, Different}
use Rattle.model.specs.declared.values.Window.{Window}
use Rattle.model.specs.declared.values.Term.{Term}
use Rattle.model.specs.Kinds.{kind_of, shape}
use Rattle.model.specs.Values.{Value, Record, at_most, different, names, fewest, entries}

-- In what follows `left` is what is left of the bytes, from the record on that is read.

-- The number in the two bytes at place i, and in the four.
abbrev pub word : List ℕ → ℕ → ℕ
word left i = slice_index left i + 256 * slice_index left (i + 1)

abbrev pub long : List ℕ → ℕ → ℕ
long left i = word left i + 65536 * word left (i + 2)

-- The length of the body, and the count that it begins with.
abbrev pub body_length : List ℕ → ℕ
body_length left = word left 0

abbrev pub count : List ℕ → ℕ
count left = slice_index left 4

-- How many bytes the record has.
abbrev pub extent : List ℕ → ℕ
extent left = 4 + body_length left

-- The entries from here on.
abbrev pub entry_bytes : RecordKind → List ℕ → List ℕ
entry_bytes k left = drop (4 + (shape k).before) left

-- k entries of `each` bytes, each of them read by f.
abbrev pub entries_in : {A : Type 0} → (List ℕ → A) → ℕ → ℕ → List ℕ → List A
entries_in f each zero bs = []
entries_in f each (suc k) bs = f bs ∷ entries_in f each k (drop each bs)

abbrev pub window_at : List ℕ → Window
window_at bs = record { low = slice_index bs 0; high = slice_index bs 1 }

abbrev pub term_at : List ℕ → Term
term_at bs = record { variable = slice_index bs 0; coefficient = to_z w16 (word bs 1) }

-- The variable of an entry is its first byte.
abbrev pub variable_at : List ℕ → ℕ
variable_at bs = slice_index bs 0

abbrev pub windows_in : ℕ → List ℕ → List Window
windows_in = entries_in window_at 2

abbrev pub terms_in : ℕ → List ℕ → List Term
terms_in = entries_in term_at 3

abbrev pub variables_in : ℕ → ℕ → List ℕ → List ℕ
variables_in = entries_in variable_at

abbrev pub bound_in : List ℕ → ℤ
bound_in left = to_z w32 (long left 5)

-- Tests.

abbrev pub does_window_fit : Window → Bool
does_window_fit w = nat_lt w.low w.high && nat_le w.high 64

abbrev pub do_windows_fit : List Window → Bool
do_windows_fit [] = true
do_windows_fit (w ∷ ws) = does_window_fit w && do_windows_fit ws

abbrev pub among : ℕ → List ℕ → Bool
among x [] = false
among x (y ∷ ys) = x == y || among x ys

-- All are variables below n, and none comes twice.
abbrev pub is_named_once : ℕ → List ℕ → Bool
is_named_once n [] = true
is_named_once n (x ∷ xs) = (nat_lt x n && not (among x xs)) && is_named_once n xs

abbrev pub does_record_fit : ℕ → Record → Bool
does_record_fit n r = nat_le (fewest r) (length (names r)) && (nat_le (length (names r)) 64 && is_named_once n (names r))

abbrev pub do_records_fit : ℕ → List Record → Bool
do_records_fit n [] = true
do_records_fit n (r ∷ rs) = does_record_fit n r && do_records_fit n rs

-- What every model holds to, as a test.
abbrev pub is_valid : Value → Bool
is_valid m =
    nat_le 1 (length m.windows) && (nat_le (length m.windows) 64 && (do_windows_fit m.windows &&
    (nat_le (length m.records) 64 && (nat_le (entries m.records) 1024 && do_records_fit (length m.windows) m.records))))

abbrev pub is_misplaced : Bool → RecordKind → Bool
is_misplaced first Windows = not first
is_misplaced first AtMost = first
is_misplaced first Different = first

abbrev pub is_misfit : RecordKind → List ℕ → Bool
is_misfit k left = not (nat_le (shape k).least (count left) && (nat_le (count left) 64 && body_length left == (shape k).before + (shape k).each * count left))

-- The constraint record is number 65, or brings entry number 1,025.
abbrev pub is_crowded : RecordKind → Value → List ℕ → Bool
is_crowded Windows m left = false
is_crowded AtMost m left = nat_le 64 (length m.records) || nat_lt 1024 (entries m.records + count left)
is_crowded Different m left = nat_le 64 (length m.records) || nat_lt 1024 (entries m.records + count left)

abbrev pub is_bad_window : RecordKind → List ℕ → Bool
is_bad_window Windows left = not (do_windows_fit (windows_in (count left) (entry_bytes Windows left)))
is_bad_window AtMost left = false
is_bad_window Different left = false

abbrev pub is_bad_variable : RecordKind → Value → List ℕ → Bool
is_bad_variable Windows m left = false
is_bad_variable AtMost m left = not (is_named_once (length m.windows) (variables_in 3 (count left) (entry_bytes AtMost left)))
is_bad_variable Different m left = not (is_named_once (length m.windows) (variables_in 1 (count left) (entry_bytes Different left)))

-- The rows of a record whose kind is known, in their order: a test, and the number of the fault where it holds.
abbrev pub rows : Bool → RecordKind → Value → List ℕ → List (Bool × ℕ)
rows first k m left =
    (is_misplaced first k, 3) ∷
    (nat_lt (length left) (extent left), 1) ∷
    (is_misfit k left, 4) ∷
    (is_crowded k m left, 7) ∷
    (is_bad_window k left, 5) ∷
    (is_bad_variable k m left, 6) ∷ []

abbrev pub first_broken : List (Bool × ℕ) → Option ℕ
first_broken [] = None
first_broken (r ∷ rs) = cond r.0 (Some r.1) (first_broken rs)

-- What is read so far, with this record.
abbrev pub with_record : Value → Record → Value
with_record m r = record { windows = m.windows; records = m.records ++ (r ∷ []) }

abbrev pub extended : RecordKind → Value → List ℕ → Value
extended Windows m left = record { windows = windows_in (count left) (entry_bytes Windows left); records = m.records }
extended AtMost m left = with_record m (at_most (bound_in left) (terms_in (count left) (entry_bytes AtMost left)))
extended Different m left = with_record m (different (variables_in 1 (count left) (entry_bytes Different left)))

-- One record: the number of the first row that it breaks, or what is read with it.
pub data Step : Type 0 where
  broken : ℕ → Step
  more : Value → Step

abbrev pub by_rows : RecordKind → Value → List ℕ → Option ℕ → Step
by_rows k m left (Some n) = broken n
by_rows k m left None = more (extended k m left)

abbrev pub by_kind : Bool → Value → List ℕ → Option RecordKind → Step
by_kind first m left None = broken 2
by_kind first m left (Some k) = by_rows k m left (first_broken (rows first k m left))

abbrev pub step : Bool → Value → List ℕ → Step
step first m left = cond (nat_lt (length left) 4) (broken 1) (by_kind first m left (kind_of (word left 2)))

-- All bytes: the model, or the number of the first fault and the offset of its record.
pub data Outcome : Type 0 where
  accepted : Value → Outcome
  refused : ℕ → ℕ → Outcome

abbrev pub follow : (Value → ℕ → List ℕ → Outcome) → ℕ → List ℕ → Step → Outcome
follow rest at left (broken n) = refused n at
follow rest at left (more m) = rest m (at + extent left) (drop (extent left) left)

-- The records after the first. There are no more of them than bytes, which the first argument counts.
abbrev pub read_rest : ℕ → Value → ℕ → List ℕ → Outcome
read_rest fuel m at [] = accepted m
read_rest zero m at (b ∷ bs) = refused 1 at
read_rest (suc fuel) m at (b ∷ bs) = follow (read_rest fuel) at (b ∷ bs) (step false m (b ∷ bs))

abbrev pub nothing : Value
nothing = record { windows = []; records = [] }

abbrev pub read_model : List ℕ → Outcome
read_model bs = follow (read_rest (length bs)) 0 bs (step true nothing bs)
