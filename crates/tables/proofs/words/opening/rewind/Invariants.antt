use Rattle.tables.proofs.Windows.{Rewinding}
use Rattle.tables.proofs.words.opening.rewind.Given as goal

abbrev pub invariant-loop-mark : goal.invariant-loop-mark
invariant-loop-mark g l = g.S.Store.sound l.initial.store → Rewinding (g.S.Store.rows l.initial.store) l._mark (g.S.Store.rows l.store) × g.S.Store.sound l.store
