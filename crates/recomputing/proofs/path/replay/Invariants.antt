use Rattle.std.proofs.Common.{◌≡◌, reverse, take}
use Rattle.tables.specs.States.{with_domains}
use Rattle.recomputing.specs.Walk.{replayed}
use Rattle.recomputing.proofs.path.replay.Given as goal

abbrev pub invariant-loop-step : goal.invariant-loop-step
invariant-loop-step g l =
    let m = g.T.DomainTable.means in
    g.T.DomainTable.sound l.initial.table → g.T.DomainTable.sound l.table × (m l.table ≡ with_domains (m l.initial.table) (replayed (m l.initial.table).domains (reverse (take l.step-index l.path))))
