-- Marks restored one by one. Assumes nothing.
use Rattle.std.proofs.Common.{◌≡◌, ℕ, ◌+◌, length}
use Rattle.tables.specs.States.{TableState}
use Rattle.spaces.specs.Tops.{stacked}
use Rattle.marking.specs.Marks.{oldest}

-- t is s with i marks restored
pub record Along (s t : TableState) (i : ℕ) : Type 0 where
  pub same : t ≡ stacked s t.domains t.saved
  pub oldest_is : oldest t.domains t.saved ≡ oldest s.domains s.saved
  pub left : length t.saved + i ≡ length s.saved
