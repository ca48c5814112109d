use Rattle.std.proofs.Common.{◌≡◌, true}
use Rattle.search.specs.Sessions.{has_session, Sound, view}
use Rattle.search.proofs.Scans.{Mid}
use Rattle.search.proofs.search.Search.next.Given as goal

abbrev pub invariant-loop-count : goal.invariant-loop-count
invariant-loop-count g l =
    let means = g.P.Space.means in
    let sound = g.P.Space.sound in
    let picks = g.R.Rule.picks in
    (l.row ≡ l.initial.row) ×
    (Sound means sound picks l.initial.self → has_session l.initial.self.session ≡ true →
    Mid (view means picks l.initial.self) l.budget l.count (view means picks l.self) × Sound means sound picks l.self)
