use Rattle.std.proofs.Common.{◌≤◌, length}
use Rattle.model.specs.Meaning.{windows}
use Rattle.tables.specs.Opening.{Filled}
use Rattle.tables.proofs.words.opening.fill.Given as goal

abbrev pub invariant-loop-x : goal.invariant-loop-x
invariant-loop-x g l =
    l.variables ≤ length (windows l.model) → l.variables ≤ length (g.S.Store.rows l.initial.store).row → g.S.Store.sound l.initial.store
    → Filled (windows l.model) l.x (g.S.Store.rows l.initial.store) (g.S.Store.rows l.store) × g.S.Store.sound l.store
