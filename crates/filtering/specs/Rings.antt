-- A ring of 64 places as a queue. Assumes nothing.
use Rattle.std.specs.Prelude.{◌≡◌, ℕ, zero, suc, ◌%◌, ◌<◌, true, false, List, [], ◌∷◌, slice_index}
use Rattle.bits.specs.Bit.{has}
use Rattle.bits.specs.declared.Set.{Set}
use Rattle.model.specs.Reading.{among}

-- `len` places of the ring from `head` on are in use, and the set holds what stands there.
pub record Ring : Type 0 where
  pub ring : List ℕ
  pub set : Set
  pub head : ℕ
  pub len : ℕ

-- n places of a ring of 64, from the place h on
abbrev pub around : List ℕ → ℕ → ℕ → List ℕ
around ring h zero = []
around ring h (suc n) = slice_index ring (h % 64) ∷ around ring (suc h) n

-- The records that wait, in their order.
abbrev pub queue : Ring → List ℕ
queue l = around l.ring l.head l.len

-- None stands twice.
abbrev pub Once : List ℕ → Type 0
Once [] = Unit {0}
Once (j ∷ js) = (among j js ≡ false) × Once js

-- The set holds what waits, no record waits twice, and all are below 64.
pub record Orderly (l : Ring) : Type 0 where
  pub set : (i : ℕ) → has l.set.word i ≡ among i (queue l)
  pub once : Once (queue l)
  pub below : (i : ℕ) → among i (queue l) ≡ true → i < 64
