use Rattle.std.proofs.Common.{◌≡◌}
use Rattle.filtering.specs.Waits.{queue, woken}
use Rattle.filtering.proofs.filter.wake.Given as goal

abbrev pub invariant-loop-i : goal.invariant-loop-i
invariant-loop-i l = queue l.list ≡ woken l.yielded (queue l.initial.list)
