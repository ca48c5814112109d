use Rattle.std.proofs.Common.{◌≡◌, suc, length}
use Rattle.marking.proofs.Rewound.{Along}
use Rattle.marking.proofs.rewind.Given as goal

abbrev pub invariant-loop-mark : goal.invariant-loop-mark
invariant-loop-mark g l =
    let m = g.T.DomainTable.means in
    g.T.DomainTable.sound l.initial.table → (length (m l.initial.table).saved ≡ suc l.k → Along (m l.initial.table) (m l.table) l._mark) × g.T.DomainTable.sound l.table
