use Rattle.std.proofs.Common.{◌≡◌, ℕ, Some, None, Ok, Err, Option, Result, arith}
use Rattle.spaces.specs.declared.space.SpaceFault.{SpaceFault}
use Rattle.search.proofs.Copying.{copied_none, copied_more, copied_all, never_else}
use Rattle.search.proofs.search.Search.copy.Goals as goal

differ : (v : ℕ) → ◌≡◌ {A = Result (Option ℕ) SpaceFault} (Ok None) (Ok (Some v)) → ⊥
differ v e = let z : ◌≡◌ {A = ℕ} 0 1 = cc in omega arith

refused : (f : SpaceFault) (v : ℕ) → ◌≡◌ {A = Result (Option ℕ) SpaceFault} (Err f) (Ok (Some v)) → ⊥
refused f v e = let z : ◌≡◌ {A = ℕ} 0 1 = cc in omega arith

pub loop-x-init : goal.loop-x-init
loop-x-init g c = λ o. copied_none (g.P.Space.means c.args.self.now.space) c.args.row.now

pub returns-in-Ok-None : goal.returns-in-Ok-None
returns-in-Ok-None g c = λ o a below e n m room. absurd (never_else (g.P.Space.means c.args.self.now.space) c.args.row.now c.loop-x.x (Ok None) a below e n m room (omega arith) (rw c.in-Ok-None.field-0-is at (c.in-Ok-None.ensures o)) differ)

pub loop-x-preserved : goal.loop-x-preserved
loop-x-preserved g c = λ o. copied_more (g.P.Space.means c.args.self.now.space) c.args.row.now c.loop-x.row c.loop-x.x c.in-Ok-Some.v (c.loop-x.invariant o) (omega arith) (rw c.in-Ok-Some.field-0-is at (c.in-Ok-Some.ensures o))

pub returns : goal.returns
returns g c = λ o. copied_all (g.P.Space.means c.args.self.now.space) c.args.row.now c.loop-x.row c.loop-x.x (c.loop-x.invariant o) (omega arith)
