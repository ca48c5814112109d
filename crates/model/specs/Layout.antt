-- The bytes of a model. Numbers are little-endian, signed ones two's complement. Assumes nothing.
use Rattle.std.specs.Prelude.{ℕ, ◌/◌, ◌%◌, ◌<◌, List, [], ◌∷◌, ◌++◌, length}
use Rattle.std.specs.Int.{w16, w32}
use Rattle.std.proofs.Common.{of_z}
use Rattle.std.specs.List.{AllByRecursion, flat_map}
use Rattle.model.specs.declared.values.Window.{Window}
use Rattle.model.specs.declared.values.Term.{Term}
use Rattle.model.specs.Values.{Value, Record, at_most, different}

-- Each is a byte.
abbrev pub Bytes : List ℕ → Type 0
Bytes = AllByRecursion (λ b. b < 256)

abbrev pub two_bytes : ℕ → List ℕ
two_bytes n = n % 256 ∷ n / 256 ∷ []

abbrev pub four_bytes : ℕ → List ℕ
four_bytes n = n % 256 ∷ n / 256 % 256 ∷ n / 65536 % 256 ∷ n / 16777216 ∷ []

abbrev pub window_bytes : Window → List ℕ
window_bytes w = w.low ∷ w.high ∷ []

abbrev pub term_bytes : Term → List ℕ
term_bytes t = t.variable ∷ two_bytes (of_z w16 t.coefficient)

-- A record is the length of its body, its kind and its body.
abbrev pub framed : ℕ → List ℕ → List ℕ
framed kind body = two_bytes (length body) ++ (two_bytes kind ++ body)

abbrev pub windows_bytes : List Window → List ℕ
windows_bytes ws = framed 1 (length ws ∷ flat_map window_bytes ws)

abbrev pub record_bytes : Record → List ℕ
record_bytes (at_most bound terms) = framed 2 (length terms ∷ (four_bytes (of_z w32 bound) ++ flat_map term_bytes terms))
record_bytes (different xs) = framed 3 (length xs ∷ xs)

-- The windows come first, then the constraint records, and nothing else.
abbrev pub encode : Value → List ℕ
encode m = windows_bytes m.windows ++ flat_map record_bytes m.records
