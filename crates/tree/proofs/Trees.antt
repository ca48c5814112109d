-- The tree of a table: there is one and one only, and it ends. Assumes nothing.
use Rattle.std.proofs.Common.{◌≡◌, ℕ, zero, suc, ◌<◌, ◌≤◌, List, ◌∷◌, length, Some, None, Option, sym, refl, ap, ◌∙◌, subst, arith}
use Rattle.tree.specs.Tables.{Table, Open, Choice, kept, dropped, single}
use Rattle.tree.specs.Filter.{Problem, Lawful, Bounded, Filtered, Node, failed, table, NodeOf}
use Rattle.tree.specs.Search.{Rule, Picked, Picks, Tree, dead, plan, fork, TreeOf, EndsWithin, visited, nodes}
use Rattle.tree.specs.Find.{grid, node, total, values, branch, grow, explore, tree, found, visit, parts, under}
use Rattle.tree.proofs.Pairs.{count-inside, kept_less, dropped_less}
use Rattle.tree.proofs.Filter.{filtered_bounded, kept-bounded, dropped-bounded, filtered_unique}
use Rattle.tree.proofs.Exists.{node-is}
use Rattle.tree.proofs.Singles.{single_closed, single-length, single-inside, closed_single}

some_injective : (p q : ℕ × ℕ) → ◌≡◌ {A = Option (ℕ × ℕ)} (Some p) (Some q) → p ≡ q
some_injective p q e = cc

module _ (P : Problem) where
  pub plan_long : (D : Table) (a : List ℕ) → Bounded P D → Filtered P D (single a) → length a ≡ P.variables
  plan_long D a b f = single-length P a (filtered_bounded P D (single a) f b) f.fits.full

module _ (P : Problem) (R : Rule) (picks : Picks P R) where
  pub picked : (D T : Table) (p : ℕ × ℕ) → Filtered P D T → Bounded P D → R T ≡ Some p → Choice T p.0 p.1
  picked D T p f b e = (subst (Picked P T) e (picks T (filtered_bounded P D T f b))).1

  pub unpicked : (D T : Table) → Filtered P D T → Bounded P D → R T ≡ None → (x : ℕ) → Open T x → ⊥
  unpicked D T f b e = subst (Picked P T) e (picks T (filtered_bounded P D T f b)) f.fits.full

  -- where the rule answers none a filtered table is one of single values
  pub plan_table : (D T : Table) → Filtered P D T → Bounded P D → R T ≡ None → T ≡ single (values P.variables P.width T)
  plan_table D T f b e = closed_single P T (filtered_bounded P D T f b) f.fits.full (λ x i o. unpicked D T f b e x o)

  kept-total : (D T : Table) (x v : ℕ) → Filtered P D T → Bounded P D → R T ≡ Some (x, v) → total P (kept x v T) < total P D
  kept-total D T x v f b e =
      let le = count-inside (grid P.variables P.width) T D f.fits.inside in
      omega (arith, kept_less P T x v (filtered_bounded P D T f b) (picked D T (x, v) f b e).is_open)

  dropped-total : (D T : Table) (x v : ℕ) → Filtered P D T → Bounded P D → R T ≡ Some (x, v) → total P (dropped x v T) < total P D
  dropped-total D T x v f b e =
      let le = count-inside (grid P.variables P.width) T D f.fits.inside in
      omega (arith, dropped_less P T x v (filtered_bounded P D T f b) (picked D T (x, v) f b e).has)

  pub tree_ends_lem : (k : ℕ) (t : Tree) (D : Table) → Bounded P D → TreeOf P R D t → total P D ≤ k → EndsWithin k t
  tree_ends_lem k dead D b t h = tt
  tree_ends_lem k (plan a) D b t h = tt
  tree_ends_lem zero (fork T x v l r) D b t h = let lt = kept-total D T x v t.0 b t.1 in absurd (omega arith)
  tree_ends_lem (suc k) (fork T x v l r) D b t h = (
    tree_ends_lem k l (kept x v T) (kept-bounded P x v D T t.0 b) t.2 (omega (arith, kept-total D T x v t.0 b t.1)),
    tree_ends_lem k r (dropped x v T) (dropped-bounded P x v D T t.0 b) t.3 (omega (arith, dropped-total D T x v t.0 b t.1)),
  )

module _ (P : Problem) (R : Rule) (laws : Lawful P) (picks : Picks P R) where
  -- a fork is over an open table
  fork_open : (D T : Table) (a : List ℕ) (x v : ℕ) → Bounded P D → Filtered P D (single a) → Filtered P D T → R T ≡ Some (x, v) → ⊥
  fork_open D T a x v b f g e = single_closed a x (subst (λ (S : Table). Open S x) (filtered_unique P D T (single a) g f) (picked P R picks D T (x, v) g b e).is_open)

  pub tree_unique : (s t : Tree) (D : Table) → Bounded P D → TreeOf P R D s → TreeOf P R D t → s ≡ t
  tree_unique dead dead D b p q = refl
  tree_unique dead (plan c) D b p q = absurd (p (single c) q.fits)
  tree_unique dead (fork T x v l r) D b p q = absurd (p T q.0.fits)
  tree_unique (plan a) dead D b p q = absurd (q (single a) p.fits)
  tree_unique (plan a) (plan c) D b p q = ap plan (single-inside a c (plan_long P D a b p ∙ sym (plan_long P D c b q)) (q.largest (single a) p.fits))
  tree_unique (plan a) (fork T x v l r) D b p q = absurd (fork_open D T a x v b p q.0 q.1)
  tree_unique (fork T x v l r) dead D b p q = absurd (q T p.0.fits)
  tree_unique (fork T x v l r) (plan a) D b p q = absurd (fork_open D T a x v b q p.0 p.1)
  tree_unique (fork T x v l r) (fork U y u m s) D b p q =
      let same : T ≡ U = filtered_unique P D T U p.0 q.0 in
      let pair : (x, v) ≡ (y, u) = some_injective (x, v) (y, u) (sym p.1 ∙ ap R same ∙ q.1) in
      let low = tree_unique l m (kept x v T) (kept-bounded P x v D T p.0 b) p.2 (subst (λ (E : Table). TreeOf P R E m) (sym (λ i. kept (pair i).0 (pair i).1 (same i))) q.2) in
      let high = tree_unique r s (dropped x v T) (dropped-bounded P x v D T p.0 b) p.3 (subst (λ (E : Table). TreeOf P R E s) (sym (λ i. dropped (pair i).0 (pair i).1 (same i))) q.3) in
      λ i. fork (same i) (pair i).0 (pair i).1 (low i) (high i)

  -- a tree grown over trees of smaller tables
  branch-is : (D T : Table) (below : Table → Tree) (o : Option (ℕ × ℕ)) → Bounded P D → Filtered P D T → R T ≡ o → ((E : Table) → Bounded P E → total P E < total P D → TreeOf P R E (below E)) → TreeOf P R D (branch P below T o)
  branch-is D T below None b f e ih =
      subst (Filtered P D) (plan_table P R picks D T f b e) f
  branch-is D T below (Some p) b f e ih = (
    f,
    e,
    ih (kept p.0 p.1 T) (kept-bounded P p.0 p.1 D T f b) (kept-total P R picks D T p.0 p.1 f b e),
    ih (dropped p.0 p.1 T) (dropped-bounded P p.0 p.1 D T f b) (dropped-total P R picks D T p.0 p.1 f b e),
  )

  grow-is : (D : Table) (below : Table → Tree) (N : Node) → Bounded P D → NodeOf P D N → ((E : Table) → Bounded P E → total P E < total P D → TreeOf P R E (below E)) → TreeOf P R D (grow P R below N)
  grow-is D below failed b f ih = f
  grow-is D below (table T) b f ih = branch-is D T below (R T) b f refl ih

  explore-is : (k : ℕ) (D : Table) → Bounded P D → total P D < k → TreeOf P R D (explore P R k D)
  explore-is zero D b h = absurd (omega arith)
  explore-is (suc k) D b h = grow-is D (explore P R k) (node P D) b (node-is P laws D b) (λ E c l. explore-is k E c (omega arith))

  pub tree_is : (D : Table) → Bounded P D → TreeOf P R D (tree P R D)
  tree_is D b = explore-is (suc (total P D)) D b (omega arith)

  -- the tree without a word of its depth
  pub tree-step : (D : Table) → Bounded P D → tree P R D ≡ grow P R (tree P R) (node P D)
  tree-step D b = tree_unique (tree P R D) (grow P R (tree P R) (node P D)) D b (tree_is D b) (grow-is D (tree P R) (node P D) b (node-is P laws D b) (λ E c l. tree_is E c))

  -- the nodes of a tree, without a word of the tree: the root, and what is under it

  nodes-branch : (T : Table) (o : Option (ℕ × ℕ)) → nodes (branch P (tree P R) T o) ≡ found P T o ∷ parts P R T o
  nodes-branch T None = refl
  nodes-branch T (Some p) = refl

  nodes-grow : (N : Node) → nodes (grow P R (tree P R) N) ≡ visit P R N ∷ under P R N
  nodes-grow failed = refl
  nodes-grow (table T) = nodes-branch T (R T)

  pub nodes-under : (D : Table) → Bounded P D → nodes (tree P R D) ≡ visit P R (node P D) ∷ under P R (node P D)
  nodes-under D b = ap nodes (tree-step D b) ∙ nodes-grow (node P D)

  -- the node that a visit finds is the node of the table
  pub visited-visit : (D : Table) (N : Node) → Bounded P D → NodeOf P D N → visited (visit P R N) ≡ N
  visited-visit D failed b h = refl
  visited-visit D (table T) b h = at (R T) refl
    where
      at : (o : Option (ℕ × ℕ)) → R T ≡ o → visited (found P T o) ≡ table T
      at None e = ap table (sym (plan_table P R picks D T h b e))
      at (Some p) e = refl
