use Rattle.search.proofs.Picking.{chose, never_none, never_fault}
use Rattle.search.proofs.rule.decided.Goals as goal

pub returns-in-Ok-Some : goal.returns-in-Ok-Some
returns-in-Ok-Some g c = λ o. chose (g.P.Space.means c.args.space.now) c.args.preference (g.P.Space.laws c.args.space.now o) c.in_ok-x.x c.in-Ok-Some.v (c.in_ok-x.ensures o) (rw c.in-Ok-Some.field-0-is at (c.in-Ok-Some.ensures o))

pub returns-in-Ok-None : goal.returns-in-Ok-None
returns-in-Ok-None g c = λ o. absurd (never_none (g.P.Space.means c.args.space.now) c.args.preference (g.P.Space.laws c.args.space.now o) c.in_ok-x.x (c.in_ok-x.ensures o) (rw c.in-Ok-None.field-0-is at (c.in-Ok-None.ensures o)))

pub returns-in-Err : goal.returns-in-Err
returns-in-Err g c = λ o. absurd (never_fault (g.P.Space.means c.args.space.now) c.args.preference (g.P.Space.laws c.args.space.now o) c.in_ok-x.x c.in-Err.field-0 (c.in_ok-x.ensures o) (c.in-Err.ensures o))
