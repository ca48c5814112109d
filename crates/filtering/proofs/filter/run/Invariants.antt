use Rattle.std.proofs.Common.{◌≡◌, length}
use Rattle.model.specs.Meaning.{means as model-means, windows}
use Rattle.kinds.specs.Problems.{asks}
use Rattle.filtering.proofs.Rounds.{Mid}
use Rattle.filtering.proofs.filter.run.Given as goal

-- what holds between two rounds where it held before the first
abbrev pub invariant-loop-round : goal.invariant-loop-round
invariant-loop-round g l =
    let means = g.T.DomainTable.means in
    let s = means l.initial.table in
    let A = asks g.K.Kinds.demands (model-means l.model) s.width in
    g.T.DomainTable.sound l.initial.table →
    (s.variables ≡ length (windows l.model) → Mid A s s l.initial.list 0 → Mid A s (means l.table) l.list l._round) × g.T.DomainTable.sound l.table
