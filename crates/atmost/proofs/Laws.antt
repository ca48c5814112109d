-- The test of stability says what the rule says, and the sum of the least parts. Assumes nothing.
use Rattle.std.proofs.Common.{◌≡◌, ℕ, ◌<◌, true, false, List, sym, ap, arith}
use Rattle.std.specs.Prelude.{pos, ◌*ℤ◌, ◌≤ℤ◌, int_lt, slice_index}
use Rattle.std.proofs.lemmas.Int.{ints}
use Rattle.std.proofs.lemmas.Bool.{cond-true, cond-false}
use Rattle.tree.specs.Tables.{Table, Inside, single}
use Rattle.tree.proofs.Singles.{single-is}
use Rattle.model.specs.declared.values.Term.{Term}
use Rattle.tree.specs.Domains.{least, greatest}
use Rattle.tree.proofs.Domains.{least-bottom, greatest-top}
use Rattle.atmost.specs.Linear.{lows, listed, sum, ReadsLikeTheRule}
use Rattle.atmost.specs.Ends.{end_one}
use Rattle.atmost.specs.Laws.{ends_larger, lows_smaller, lows_sum, stable-to, stable-from}

-- larger domains have smaller least parts
pub lows_larger : (w : ℕ) (S T : Table) (ts : List Term) → Inside S T → ((x v : ℕ) → S x v ≡ true → v < w) → ((x : ℕ) → listed ts x ≡ true → (v : ℕ) × (S x v ≡ true)) → lows w T ts ≤ℤ lows w S ts
lows_larger w S T ts ins b f = lows_smaller w S T ts (ends_larger w S T ts ins b f)

-- least parts of single values have the sum of these
lows-one : (w : ℕ) (a : List ℕ) (ts : List Term) → ((x : ℕ) → listed ts x ≡ true → (single a x (slice_index a x) ≡ true) × (slice_index a x < w)) → lows w (single a) ts ≡ sum ts a
lows-one w a ts f = lows_sum w a ts (λ t m. let p = f t.variable m in end_one w (single a t.variable) t.coefficient (slice_index a t.variable) p.0 p.1 (λ u h. (single-is a t.variable u h).1))

pub reads : ReadsLikeTheRule
reads = record {
  rule = λ w ts b S. (stable-to w ts b S, stable-from w ts b S);
  up = λ w d a l. let e : int_lt a (pos 0) ≡ false = sym (omega (arith, ints, l)) in ap (λ (z : ℕ). a *ℤ pos z) (cond-false (int_lt a (pos 0)) (greatest d w) (least d 0 w) e);
  down = λ w d a e. ap (λ (z : ℕ). a *ℤ pos z) (cond-true (int_lt a (pos 0)) (greatest d w) (least d 0 w) e);
  first = λ w d v l h. least-bottom d 0 w v (omega arith) (omega (arith, l)) h;
  last = λ w d v l h. let p = greatest-top d w v l h in (p.0, p.2);
}
