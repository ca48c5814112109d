-- The faults of a space, and what each of its calls answers and does. Assumes nothing.
use Rattle.std.specs.Prelude.{◌≡◌, ℕ, suc, ◌<◌, ◌≤◌, Bool, cond, ◌⊎◌, List, [], ◌∷◌, length, Ok, Err, Option, Result, nat_lt}
use Rattle.bits.specs.Bit.{Least, Greatest}
use Rattle.tree.specs.Tables.{Table, Choice, kept, dropped}
use Rattle.tree.specs.Domains.{size, has_some}
use Rattle.tree.specs.Filter.{Node, failed, table, NodeOf}
use Rattle.stores.specs.declared.store.StoreFault.TheVariants.{Deep}
use Rattle.tables.specs.Calls.{number as table-number, place as table-place}
use Rattle.tables.specs.declared.table.TableFault.{TableFault}
use Rattle.tables.specs.declared.table.TableFault.TheVariants.{Store}
use Rattle.spaces.specs.Pile.{SpaceState, piled, Ready}
use Rattle.spaces.specs.declared.space.SpaceFault.{SpaceFault}
use Rattle.spaces.specs.declared.space.SpaceFault.TheVariants.{Busy, Idle, Failed, NoChoice, Base, NoTake, Table as Passed}
use Rattle.spaces.specs.declared.space.State.{State}
use Rattle.spaces.specs.declared.space.State.TheVariants.{NoRun, Open as IsOpen, Plan as IsPlan, Failed as HasFailed}

-- the published number of a fault, and its place: those of the table's fault where it holds one
abbrev pub number : SpaceFault → ℕ
number (Busy k) = 31
number Idle = 32
number (Failed k) = 33
number (NoChoice x) = 34
number (Base m) = 35
number NoTake = 36
number (Passed f) = table-number f

abbrev pub place : SpaceFault → ℕ
place (Busy k) = k
place Idle = 0
place (Failed k) = k
place (NoChoice x) = x
place (Base m) = m
place NoTake = 0
place (Passed f) = table-place f

abbrev pub Says : SpaceFault → ℕ → ℕ → Type 0
Says e n p = (number e ≡ n) × (place e ≡ p)

-- The fault of a table that refused a mark with m standing, passed on.
abbrev pub Unmarked : SpaceFault → ℕ → Type 0
Unmarked e m = Says e 12 m × (e ≡ Passed (Store (Deep m)))

-- The fault of a table that has no such variable x, or no such value of it, passed on.
abbrev pub IsNoSuch : SpaceFault → ℕ → Type 0
IsNoSuch e x = (f : TableFault) × (e ≡ Passed f) × (table-number f ≡ 21) × (table-place f ≡ x)

-- What filtering makes of D is put on p, and cs are the choices.
abbrev pub Puts : SpaceState → Table → List Node → List (ℕ × ℕ) → SpaceState → Type 0
Puts s D p cs t = (N : Node) × NodeOf s.problem D N × (t ≡ piled s (N ∷ p) cs)

abbrev pub enters : SpaceState → List Node → SpaceState → Result Unit SpaceFault → Type 0
enters s [] t (Ok u) = Ready s × (0 < s.room) × Puts s s.base [] [] t
enters s [] t (Err e) = ((Ready s → ⊥) × Says e 35 (length s.saved)) ⊎ (Ready s × (s.room ≡ 0) × Unmarked e 0)
enters s (N ∷ p) t (Ok u) = ⊥
enters s (N ∷ p) t (Err e) = Says e 31 (suc (length p))

-- the filtered base is put on the empty pile
abbrev pub Enters : SpaceState → SpaceState → Result Unit SpaceFault → Type 0
Enters s t r = enters s s.pile t r

abbrev pub takes : SpaceState → ℕ → ℕ → List Node → SpaceState → Result Unit SpaceFault → Type 0
takes s x v [] t (Ok u) = ⊥
takes s x v [] t (Err e) = Says e 32 0
takes s x v (failed ∷ p) t (Ok u) = ⊥
takes s x v (failed ∷ p) t (Err e) = Says e 33 (suc (length p))
takes s x v (table T ∷ p) t (Ok u) =
    Choice T x v × (length s.choices < s.depth) × Puts s (kept x v T) (table T ∷ p) ((x, v) ∷ s.choices) t
takes s x v (table T ∷ p) t (Err e) =
    ((Choice T x v → ⊥) × Says e 34 x) ⊎ (Choice T x v × (length s.choices ≡ s.depth) × Unmarked e (suc (length s.choices)))

-- the filtering of the top with x kept at v is put on
abbrev pub Takes : SpaceState → ℕ → ℕ → SpaceState → Result Unit SpaceFault → Type 0
Takes s x v t r = takes s x v s.pile t r

abbrev pub turns : SpaceState → List Node → List (ℕ × ℕ) → SpaceState → Result Unit SpaceFault → Type 0
turns s [] cs t (Ok u) = ⊥
turns s [] cs t (Err e) = Says e 32 0
turns s (N ∷ p) [] t (Ok u) = ⊥
turns s (N ∷ p) [] t (Err e) = Says e 36 0
turns s (N ∷ []) (c ∷ cs) t r = ⊥
turns s (N ∷ failed ∷ p) (c ∷ cs) t r = ⊥
turns s (N ∷ table T ∷ p) (c ∷ cs) t (Ok u) = Puts s (dropped c.0 c.1 T) p cs t
turns s (N ∷ table T ∷ p) (c ∷ cs) t (Err e) = ⊥

-- the top is taken off, and the node below is replaced by its filtering without the value of the last take
abbrev pub Turns : SpaceState → SpaceState → Result Unit SpaceFault → Type 0
Turns s t r = turns s s.pile s.choices t r

abbrev pub leaves : SpaceState → List Node → SpaceState → Result Unit SpaceFault → Type 0
leaves s [] t (Ok u) = ⊥
leaves s [] t (Err e) = Says e 32 0
leaves s (N ∷ p) t (Ok u) = t ≡ piled s [] []
leaves s (N ∷ p) t (Err e) = ⊥

-- the pile is emptied
abbrev pub Leaves : SpaceState → SpaceState → Result Unit SpaceFault → Type 0
Leaves s t r = leaves s s.pile t r

-- Some of the n variables is open, of values below w.
abbrev pub has_open : ℕ → ℕ → Table → Bool
has_open n w T = has_some (λ x. nat_lt 1 (size (T x) w)) n

abbrev pub state : ℕ → ℕ → List Node → State
state n w [] = NoRun
state n w (failed ∷ p) = HasFailed
state n w (table T ∷ p) = cond (has_open n w T) IsOpen IsPlan

-- none, open, plan (no variable is open), or failed
abbrev pub state_of : SpaceState → State
state_of s = state s.problem.variables s.problem.width s.pile

abbrev pub Fails : {R : Type 0} → ℕ → Result R SpaceFault → Type 0
Fails k (Ok r) = ⊥
Fails k (Err e) = Says e 33 k

-- A question Q answers for the top, or for the base without a run; a failed node has no answer.
abbrev pub of_top : {R : Type 0} → Table → List Node → (Table → Result R SpaceFault → Type 0) → Result R SpaceFault → Type 0
of_top base [] Q r = Q base r
of_top base (failed ∷ p) Q r = Fails (suc (length p)) r
of_top base (table T ∷ p) Q r = Q T r

-- The questions over n variables and values below w: whether v is in the domain of x, its size and its ends.
abbrev pub Told : ℕ → ℕ → ℕ → ℕ → Table → Result Bool SpaceFault → Type 0
Told n w x v T (Ok b) = (x < n) × (v < w) × (b ≡ T x v)
Told n w x v T (Err e) = ((n ≤ x) ⊎ (w ≤ v)) × IsNoSuch e x

abbrev pub Sized : ℕ → ℕ → ℕ → Table → Result ℕ SpaceFault → Type 0
Sized n w x T (Ok k) = (x < n) × (k ≡ size (T x) w)
Sized n w x T (Err e) = (n ≤ x) × IsNoSuch e x

abbrev pub Lowest : ℕ → ℕ → Table → Result (Option ℕ) SpaceFault → Type 0
Lowest n x T (Ok o) = (x < n) × Least (T x) o
Lowest n x T (Err e) = (n ≤ x) × IsNoSuch e x

abbrev pub Highest : ℕ → ℕ → Table → Result (Option ℕ) SpaceFault → Type 0
Highest n x T (Ok o) = (x < n) × Greatest (T x) o
Highest n x T (Err e) = (n ≤ x) × IsNoSuch e x

abbrev pub Tells : SpaceState → ℕ → ℕ → Result Bool SpaceFault → Type 0
Tells s x v r = of_top s.base s.pile (Told s.variables s.problem.width x v) r

abbrev pub Sizes : SpaceState → ℕ → Result ℕ SpaceFault → Type 0
Sizes s x r = of_top s.base s.pile (Sized s.variables s.problem.width x) r

abbrev pub Leasts : SpaceState → ℕ → Result (Option ℕ) SpaceFault → Type 0
Leasts s x r = of_top s.base s.pile (Lowest s.variables x) r

abbrev pub Greatests : SpaceState → ℕ → Result (Option ℕ) SpaceFault → Type 0
Greatests s x r = of_top s.base s.pile (Highest s.variables x) r
