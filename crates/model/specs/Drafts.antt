-- What the places of a draft hold. Assumes nothing.
use Rattle.std.specs.Prelude.{◌≡◌, ℕ, zero, suc, ◌+◌, ◌<◌, Bool, true, false, ◌&&◌, List, [], ◌∷◌, map, take, drop, nat_le, slice_index_or}
use Rattle.bits.specs.Bit.{has}
use Rattle.bits.specs.declared.Set.{Set}
use Rattle.model.specs.declared.values.Term.{Term}
use Rattle.model.specs.declared.draft.Stored.{Stored}
use Rattle.model.specs.declared.draft.Stored.TheVariants.{AtMost, Different}
use Rattle.model.specs.Values.{Record, at_most, different, names}
use Rattle.model.specs.Reading.{among}

-- The record whose entries lie there, among these terms or these variables.
abbrev pub stored_record : List Term → List ℕ → Stored → Record
stored_record ts xs (AtMost bound from count) = at_most bound (take count (drop from ts))
stored_record ts xs (Different from count) = different (take count (drop from xs))

abbrev pub stored_records : List Term → List ℕ → List Stored → List Record
stored_records ts xs = map (stored_record ts xs)

-- The record number r names the variable x.
abbrev pub does_name : List Record → ℕ → ℕ → Bool
does_name [] r x = false
does_name (q ∷ qs) zero x = among x (names q)
does_name (q ∷ qs) (suc r) x = does_name qs r x

-- The entries of the record lie among those in use.
abbrev pub is_placed : ℕ → ℕ → Stored → Bool
is_placed summed listed (AtMost bound from count) = nat_le (from + count) summed
is_placed summed listed (Different from count) = nat_le (from + count) listed

abbrev pub are_placed : ℕ → ℕ → List Stored → Bool
are_placed summed listed [] = true
are_placed summed listed (s ∷ ss) = is_placed summed listed s && are_placed summed listed ss

abbrev pub none : Set
none = record { word = 0 }

-- The set of each variable holds the records that name it.
abbrev pub Noted : List Set → List Record → Type 0
Noted sets rs = (x r : ℕ) → x < 64 → has (slice_index_or sets x none).word r ≡ does_name rs r x
