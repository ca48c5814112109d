-- The test of stability says what the rule says. Assumes nothing.
use Rattle.std.proofs.Common.{◌≡◌, ℕ, true, ◌≢◌}
use Rattle.tree.specs.Tables.{Table}
use Rattle.different.specs.Different.{apart, ReadsLikeTheRule}
use Rattle.different.specs.Lists.{pairs-from, pairs-to}
use Rattle.different.specs.Laws.{Lone, Small, clear_to, clear_from}

module _ (w x y : ℕ) (T : Table) where
  pub apart-to : (v : ℕ) → Small w T → apart w T x y ≡ true → Lone T x v → T y v ≢ true
  apart-to = clear_to w x y T

  pub apart_from : Small w T → ((v : ℕ) → Lone T x v → T y v ≢ true) → apart w T x y ≡ true
  apart_from = clear_from w x y T

pub reads : ReadsLikeTheRule
reads w xs T b = (
  λ e x y v ax ay d h only. apart-to w x y T v b (pairs-to xs (apart w T) e x y ax ay d) (h, only),
  λ f. pairs-from xs (apart w T) (λ x y ax ay d. apart_from w x y T b (λ v l. f x y v ax ay d l.0 l.1)),
)
