use Rattle.std.proofs.Common.{◌≡◌, ◌+◌, length, reverse}
use Rattle.recomputing.specs.Walk.{last_take}
use Rattle.recomputing.proofs.path.unwind.Given as goal

abbrev pub invariant-loop-step : goal.invariant-loop-step
invariant-loop-step l = (last_take (reverse l.initial.path) ≡ last_take (reverse l.path)) × (length l.path + l._step ≡ length l.initial.path)
