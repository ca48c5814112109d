-- The members of a word, one by one. Assumes nothing.
use Rattle.std.specs.Prelude.{◌≡◌, ℕ, [], ◌∷◌, Some, None, Option}
use Rattle.bits.specs.Bit.{members}
use Rattle.bits.specs.declared.Set.{Set}

-- the first of the members, and the set of the others; none where there is no member
abbrev pub Splits : ℕ → Option (ℕ × Set) → Type 0
Splits w (Some p) = members w ≡ p.0 ∷ members p.1.word
Splits w None = members w ≡ []
