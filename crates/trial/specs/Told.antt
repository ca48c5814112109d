-- What a refusal is told as. Assumes nothing.
use Rattle.std.specs.Prelude.{ℕ, Ok, Err, Result, Some, None, Option}
use Rattle.trial.specs.declared.Refusal.{Refusal}

-- the number and the place of the fault, where the answer is one
abbrev pub tells : {X E : Type 0} → (E → ℕ) → (E → ℕ) → Result X E → Option Refusal
tells number place (Ok x) = None
tells number place (Err e) = Some (record { number = number e; place = place e })
