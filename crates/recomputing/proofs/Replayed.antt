-- Replaying step by step. Assumes nothing.
use Rattle.std.proofs.Common.{◌≡◌, ℕ, ◌<◌, true, List, length, reverse, get_or, is_err, Ok, Err, Result, sym, ap, subst, true≢false}
use Rattle.tables.specs.States.{TableState, with_domains}
use Rattle.tables.specs.declared.table.TableFault.{TableFault}
use Rattle.recomputing.specs.Walk.{replayed, variable, value, Replays}
use Rattle.recomputing.specs.Walks.{ranged_at}
use Rattle.recomputing.specs.declared.path.Step.{Step}
use Rattle.recomputing.specs.declared.path.Step.TheVariants.{Take}

pub replay_stops : (s t u : TableState) (path ss : List Step) (i : ℕ) (r : Result Unit TableFault) → i < length path → t ≡ with_domains s (replayed s.domains ss) →
    is_err r ≡ true → (variable (get_or path i (Take 0 0)) < t.variables → value (get_or path i (Take 0 0)) < t.width → ⊥) → Replays s (reverse path) u r
replay_stops s t u path ss i (Ok x) l e h f = absurd (true≢false (sym h))
replay_stops s t u path ss i (Err x) l e h f = λ r.
    let a = ranged_at s.variables s.width path i r l in
    f (subst (λ (m : ℕ). variable (get_or path i (Take 0 0)) < m) (sym (ap (λ (q : TableState). q.variables) e)) a.0) (subst (λ (m : ℕ). value (get_or path i (Take 0 0)) < m) (sym (ap (λ (q : TableState). q.width) e)) a.1)
