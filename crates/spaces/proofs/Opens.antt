-- Open variables, by the size of their domains. Assumes nothing.
use Rattle.std.proofs.Common.{◌≡◌, ℕ, ◌<◌, true, false, ltb, sym, ap, ◌∙◌, subst}
use Rattle.std.proofs.lemmas.Bool.{both_ways, lt-ltb, ltb-true}
use Rattle.tree.specs.Tables.{Table, Open}
use Rattle.tree.specs.Domains.{size}
use Rattle.tree.proofs.Domains.{size_open, open_size, has_some_from, has_some_to}
use Rattle.tables.specs.States.{TableState, Within, Bounds}
use Rattle.spaces.specs.Calls.{has_open}

-- an open variable has a size above 1, and a variable of such a size is open
pub size_above : (n w : ℕ) (T : Table) (x : ℕ) → Within n w T → Open T x → 1 < size (T x) w
size_above n w T x b o = open_size (T x) w o.one o.other (b x o.one o.has_one).1 (b x o.other o.has_other).1 o.apart o.has_one o.has_other

pub open_from : (s : TableState) (x k : ℕ) → k ≡ size (s.domains x) s.width → 1 < k → Open s.domains x
open_from s x k e h = size_open s.domains x s.width (subst (λ (n : ℕ). 1 < n) e h)

pub open_above : (s : TableState) (x k : ℕ) → Bounds s → k ≡ size (s.domains x) s.width → Open s.domains x → 1 < k
open_above s x k b e o = subst (λ (n : ℕ). 1 < n) (sym e) (size_above s.variables s.width s.domains x b.within o)

pub open_bound : (s : TableState) (x : ℕ) → Bounds s → Open s.domains x → x < s.variables
open_bound s x b o = (b.within x o.one o.has_one).0

pub found-one : (T : Table) (n w x k : ℕ) → x < n → k ≡ size (T x) w → 1 < k → has_open n w T ≡ true
found-one T n w x k h e l = has_some_from (λ y. ltb 1 (size (T y) w)) n x h (ap (ltb 1) (sym e) ∙ lt-ltb 1 k l)

-- what the test says
pub has_open_to : (n w : ℕ) (T : Table) → has_open n w T ≡ true → (x : ℕ) × Open T x
has_open_to n w T h =
    let p = has_some_to (λ y. ltb 1 (size (T y) w)) n h in
    (p.0, size_open T p.0 w (ltb-true 1 (size (T p.0) w) p.1))

pub has_open_none : (n w : ℕ) (T : Table) → Within n w T → has_open n w T ≡ false → (x : ℕ) → Open T x → ⊥
has_open_none n w T b h x o = both_ways (has_open n w T) h (found-one T n w x (size (T x) w) (b x o.one o.has_one).0 (λ i. size (T x) w) (size_above n w T x b o))
