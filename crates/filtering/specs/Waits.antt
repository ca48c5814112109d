-- The records that wait, first in first out. Assumes nothing.
use Rattle.std.specs.Prelude.{◌≡◌, ℕ, cond, List, [], ◌∷◌, ◌++◌, Some, None, Option}
use Rattle.bits.specs.Bit.{has, Empty}
use Rattle.model.specs.Reading.{among}
pub use Rattle.filtering.specs.Rings.{queue, Orderly}
use Rattle.filtering.specs.declared.list.WaitingList.{WaitingList}

-- No record waits.
abbrev pub Idle : WaitingList → Type 0
Idle l = (queue l ≡ []) × Empty (has l.set.word)

-- the record i at the end, unless it waits
abbrev pub behind : List ℕ → ℕ → List ℕ
behind q i = cond (among i q) q (q ++ (i ∷ []))

-- the records of the list at the end, one after another
abbrev pub woken : List ℕ → List ℕ → List ℕ
woken [] q = q
woken (i ∷ is) q = woken is (behind q i)

abbrev pub Pops : List ℕ → Option ℕ → List ℕ → Type 0
Pops q None r = (q ≡ []) × (r ≡ [])
Pops q (Some i) r = q ≡ i ∷ r
