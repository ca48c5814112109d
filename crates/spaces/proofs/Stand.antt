-- How a pile stands before and after a move. Assumes nothing.
use Rattle.std.proofs.Common.{◌≡◌, ℕ, suc, ◌<◌, ◌≤◌, List, [], ◌∷◌, length, Ok, Err, sym, refl, subst, inr, arith}
use Rattle.tree.specs.Tables.{Table, Inside, Choice, kept, dropped}
use Rattle.tree.specs.Filter.{Problem, Bounded, Node, failed, table, NodeOf}
use Rattle.tree.proofs.Tables.{inside_trans, kept-inside, dropped-inside}
use Rattle.tree.proofs.Filter.{bounded-inside}
use Rattle.spaces.specs.Pile.{SpaceState, Ready, Settles, Below, Stands}
use Rattle.spaces.specs.Calls.{Puts, Unmarked, enters, takes, turns, Enters, Takes, Turns}
use Rattle.spaces.specs.declared.space.SpaceFault.{SpaceFault}
use Rattle.spaces.specs.declared.space.SpaceFault.TheVariants.{Failed}
use Rattle.spaces.proofs.Singles.{singles_open, stands-few}

below_of : (P : Problem) (D : Table) (N : Node) → NodeOf P D N → Below N D
below_of P D failed h = tt
below_of P D (table T) h = h.fits.inside

below_wider : (N : Node) (D E : Table) → Inside D E → Below N D → Below N E
below_wider failed D E i b = tt
below_wider (table T) D E i b = inside_trans T D E b i

pub settles_of : (P : Problem) (D : Table) (N : Node) → Bounded P D → NodeOf P D N → Settles P N
settles_of P D failed b h = tt
settles_of P D (table T) b h = record { bounded = bounded-inside P T D h.fits.inside b; full = h.fits.full; stable = h.fits.stable }

-- what stands is settled
pub stands_settled : (P : Problem) (N : Node) (p : List Node) (cs : List (ℕ × ℕ)) → Stands P N p cs → Settles P N
stands_settled P N [] [] s = s
stands_settled P N [] (c ∷ cs) s = absurd s
stands_settled P N (M ∷ p) [] s = absurd s
stands_settled P N (failed ∷ p) (c ∷ cs) s = absurd s
stands_settled P N (table T ∷ p) (c ∷ cs) s = s.0

-- takes are fewer than the variables where a variable is open
pub takes-fewer : (P : Problem) (T : Table) (p : List Node) (cs : List (ℕ × ℕ)) (x v : ℕ) → Stands P (table T) p cs → Choice T x v → length cs < P.variables
takes-fewer P T p cs x v s ch =
    let a : length cs ≤ _ = stands-few P (table T) p cs s in
    let l = singles_open P T x (stands_settled P (table T) p cs s).bounded ch.is_open in
    omega arith

stands_lower : (P : Problem) (N : Node) (T : Table) (p : List Node) (cs : List (ℕ × ℕ)) → Settles P N → Below N T → Stands P (table T) p cs → Stands P N p cs
stands_lower P N T [] [] n b s = n
stands_lower P N T [] (c ∷ cs) n b s = absurd s
stands_lower P N T (M ∷ p) [] n b s = absurd s
stands_lower P N T (failed ∷ p) (c ∷ cs) n b s = absurd s
stands_lower P N T (table U ∷ p) (c ∷ cs) n b s = (n, s.1, below_wider N T (kept c.0 c.1 U) s.2 b, s.3)

module _ (P : Problem) where
  -- the node of a bounded table stands alone
  pub stands-first : (D : Table) (N : Node) → Bounded P D → NodeOf P D N → Stands P N [] []
  stands-first D N b h = settles_of P D N b h

  -- a take, and a drop, at a node that stands
  pub stands-taken : (N : Node) (T : Table) (p : List Node) (cs : List (ℕ × ℕ)) (x v : ℕ) →
      Stands P (table T) p cs → Choice T x v → NodeOf P (kept x v T) N → Stands P N (table T ∷ p) ((x, v) ∷ cs)
  stands-taken N T p cs x v s ch h =
      let b : Bounded P (kept x v T) = bounded-inside P (kept x v T) T (kept-inside x v T) (stands_settled P (table T) p cs s).bounded in
      (settles_of P (kept x v T) N b h, ch, below_of P (kept x v T) N h, s)

  pub stands-dropped : (N : Node) (T : Table) (p : List Node) (cs : List (ℕ × ℕ)) (x v : ℕ) →
      Stands P (table T) p cs → NodeOf P (dropped x v T) N → Stands P N p cs
  stands-dropped N T p cs x v s h =
      let b : Bounded P (dropped x v T) = bounded-inside P (dropped x v T) T (dropped-inside x v T) (stands_settled P (table T) p cs s).bounded in
      stands_lower P N T p cs (settles_of P (dropped x v T) N b h) (below_wider N (dropped x v T) T (dropped-inside x v T) (below_of P (dropped x v T) N h)) s

-- the relations of the calls, where the pile is known

module _ (s t : SpaceState) where
  pub entered : s.pile ≡ [] → Ready s → 0 < s.room → Puts s s.base [] [] t → Enters s t (Ok tt)
  entered e r z h = subst (λ (q : List Node). enters s q t (Ok tt)) (sym e) (r, z, h)

  pub stuck : (x v m : ℕ) (q : List Node) → s.pile ≡ failed ∷ q → m ≡ suc (length q) → Takes s x v t (Err (Failed m))
  stuck x v m q e h = subst (λ (p : List Node). takes s x v p t (Err (Failed m))) (sym e) (refl, h)

  pub full : (x v : ℕ) (f : SpaceFault) (T : Table) (p : List Node) → s.pile ≡ table T ∷ p → Choice T x v →
      length s.choices ≡ s.depth → Unmarked f (suc (length s.choices)) → Takes s x v t (Err f)
  full x v f T p e ch d h = subst (λ (q : List Node). takes s x v q t (Err f)) (sym e) (inr (ch, d, h))

  pub took : (x v : ℕ) (T : Table) (p : List Node) → s.pile ≡ table T ∷ p → Choice T x v → length s.choices < s.depth →
      Puts s (kept x v T) (table T ∷ p) ((x, v) ∷ s.choices) t → Takes s x v t (Ok tt)
  took x v T p e ch d h = subst (λ (q : List Node). takes s x v q t (Ok tt)) (sym e) (ch, d, h)

  pub turned : (N : Node) (T : Table) (p : List Node) (c : ℕ × ℕ) (cs : List (ℕ × ℕ)) → s.pile ≡ N ∷ table T ∷ p → s.choices ≡ c ∷ cs →
      Puts s (dropped c.0 c.1 T) p cs t → Turns s t (Ok tt)
  turned N T p c cs e f h =
      subst (λ (q : List Node). turns s q s.choices t (Ok tt)) (sym e)
      (subst (λ (q : List (ℕ × ℕ)). turns s (N ∷ table T ∷ p) q t (Ok tt)) (sym f) h)
