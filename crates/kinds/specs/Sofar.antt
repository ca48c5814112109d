-- What a pass has done so far. Assumes nothing.
use Rattle.std.specs.Prelude.{ℕ}
use Rattle.bits.specs.declared.Set.{Set}
use Rattle.tables.specs.States.{TableState}
use Rattle.kinds.specs.Demands.{Demand}
use Rattle.kinds.specs.Passes.{Narrows, Smaller}

pub record Sofar (n : ℕ) (A : Demand) (s : TableState) (set : Set) (t : TableState) : Type 0 where
  pub narrows : Narrows n A s t
  pub shrunk : Smaller s set t
