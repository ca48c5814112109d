-- The plans of a tree are sound, complete, apart and in the tree's order. Assumes nothing.
use Rattle.std.proofs.Common.{◌≡◌, ℕ, ◌≢◌, ◌⊎◌, List, [], ◌∷◌, ◌++◌, get_or, sym, refl, ap, ◌∙◌, subst, inl, inr, ⊎_elim}
use Rattle.std.proofs.lemmas.Bool.{cases_eq}
use Rattle.tree.specs.Tables.{Table, Inside, kept, dropped, single}
use Rattle.tree.specs.Filter.{Problem, Lawful, Bounded, Solves, Fits}
use Rattle.tree.specs.Search.{Rule, Picks, Tree, dead, plan, fork, TreeOf, plans, Listed, Ordered, Before}
use Rattle.tree.proofs.Tables.{inside_trans, kept-inside, kept-has, kept-is, dropped-inside, dropped-has, dropped-not}
use Rattle.tree.proofs.Filter.{bounded-inside, filtered_bounded, kept-bounded, dropped-bounded}
use Rattle.tree.proofs.Singles.{single-full, from-inside, inside-from, from_wider, single-inside}
use Rattle.tree.proofs.Trees.{plan_long, picked}

-- lists

listed-left : (a : List ℕ) (us vs : List (List ℕ)) → Listed a us → Listed a (us ++ vs)
listed-left a [] vs l = absurd l
listed-left a (u ∷ us) vs (inl e) = inl e
listed-left a (u ∷ us) vs (inr l) = inr (listed-left a us vs l)

listed_right : (a : List ℕ) (us vs : List (List ℕ)) → Listed a vs → Listed a (us ++ vs)
listed_right a [] vs l = l
listed_right a (u ∷ us) vs l = inr (listed_right a us vs l)

listed-cases : (a : List ℕ) (us vs : List (List ℕ)) → Listed a (us ++ vs) → Listed a us ⊎ Listed a vs
listed-cases a [] vs l = inr l
listed-cases a (u ∷ us) vs (inl e) = inl (inl e)
listed-cases a (u ∷ us) vs (inr l) = ⊎_elim (λ h. inl (inr h)) inr (listed-cases a us vs l)

ordered_by : (R S : List ℕ → List ℕ → Type 0) (us : List (List ℕ)) → ((a b : List ℕ) → Listed a us → Listed b us → R a b → S a b) → Ordered R us → Ordered S us
ordered_by R S [] f o = tt
ordered_by R S (u ∷ us) f o = (λ b l. f u b (inl refl) (inr l) (o.0 b l), ordered_by R S us (λ a b k l. f a b (inr k) (inr l)) o.1)

ordered-append : (R : List ℕ → List ℕ → Type 0) (us vs : List (List ℕ)) → Ordered R us → Ordered R vs → ((a b : List ℕ) → Listed a us → Listed b vs → R a b) → Ordered R (us ++ vs)
ordered-append R [] vs o p f = p
ordered-append R (u ∷ us) vs o p f =
    (λ b l. ⊎_elim (o.0 b) (f u b (inl refl)) (listed-cases b us vs l), ordered-append R us vs o.1 p (λ a b k l. f a b (inr k) l))

module _ (P : Problem) (R : Rule) (laws : Lawful P) (picks : Picks P R) where
  solves_wider : (S D : Table) (a : List ℕ) → Inside S D → Solves P S a → Solves P D a
  solves_wider S D a i s = record { from = from_wider P S D a i s.from; meets = s.meets }

  pub sound : (t : Tree) (D : Table) (a : List ℕ) → Bounded P D → TreeOf P R D t → Listed a (plans t) → Solves P D a
  sound dead D a b t l = absurd l
  sound (plan c) D a b t (inl e) = subst (Solves P D) (sym e) (record {
    from = inside-from P D c (plan_long P D c b t) t.fits.inside;
    meets = sym (laws.singles c (filtered_bounded P D (single c) t b) t.fits.full) ∙ t.fits.stable;
  })
  sound (plan c) D a b t (inr l) = absurd l
  sound (fork T x v l r) D a b t i =
      let f = t.0 in
      ⊎_elim
      (λ k. solves_wider (kept x v T) D a (inside_trans (kept x v T) T D (kept-inside x v T) f.fits.inside) (sound l (kept x v T) a (kept-bounded P x v D T f b) t.2 k))
      (λ k. solves_wider (dropped x v T) D a (inside_trans (dropped x v T) T D (dropped-inside x v T) f.fits.inside) (sound r (dropped x v T) a (dropped-bounded P x v D T f b) t.3 k))
      (listed-cases a (plans l) (plans r) i)

  solves_fits : (D : Table) (a : List ℕ) → Bounded P D → Solves P D a → Fits P D (single a)
  solves_fits D a b s =
      let i = from-inside P D a s.from in
      let full = single-full P a s.from.long in
      record { inside = i; full = full; stable = laws.singles a (bounded-inside P (single a) D i b) full ∙ s.meets }

  pub complete : (t : Tree) (D : Table) (a : List ℕ) → Bounded P D → TreeOf P R D t → Solves P D a → Listed a (plans t)
  complete dead D a b t s = t (single a) (solves_fits D a b s)
  complete (plan c) D a b t s = inl (single-inside a c (s.from.long ∙ sym (plan_long P D c b t)) (t.largest (single a) (solves_fits D a b s)))
  complete (fork T x v l r) D a b t s =
      let f = t.0 in
      let i = inside-from P T a s.from.long (f.largest (single a) (solves_fits D a b s)) in
      ⊎_elim
      (λ e. listed-left a (plans l) (plans r) (complete l (kept x v T) a (kept-bounded P x v D T f b) t.2 (record {
        from = record { long = i.long; left = λ y h. kept-has x v T y (get_or a y 0) (i.left y h) (λ q. ap (λ (z : ℕ). get_or a z 0) q ∙ e) };
        meets = s.meets;
      })))
      (λ ne. listed_right a (plans l) (plans r) (complete r (dropped x v T) a (dropped-bounded P x v D T f b) t.3 (record {
        from = record { long = i.long; left = λ y h. dropped-has x v T y (get_or a y 0) (i.left y h) (λ q. ne (sym (ap (λ (z : ℕ). get_or a z 0) q.0) ∙ q.1)) };
        meets = s.meets;
      })))
      (cases_eq (get_or a x 0) v)

  pub ordered : (t : Tree) (D : Table) → Bounded P D → TreeOf P R D t → Ordered (Before t) (plans t)
  ordered dead D b t = tt
  ordered (plan c) D b t = (λ a l. absurd l, tt)
  ordered (fork T x v l r) D b t =
      let f = t.0 in
      let lb = kept-bounded P x v D T f b in
      let rb = dropped-bounded P x v D T f b in
      let k = (filtered_bounded P D T f b x v (picked P R picks D T (x, v) f b t.1).has).0 in
      let goes_left : (a : List ℕ) → Listed a (plans l) → get_or a x 0 ≡ v = λ a h. kept-is x v T x (get_or a x 0) ((sound l (kept x v T) a lb t.2 h).from.left x k) refl in
      let goes-right : (a : List ℕ) → Listed a (plans r) → get_or a x 0 ≢ v = λ a h e. dropped-not x v T x (get_or a x 0) ((sound r (dropped x v T) a rb t.3 h).from.left x k) (refl, e) in
      ordered-append (Before (fork T x v l r)) (plans l) (plans r)
      (ordered_by (Before l) (Before (fork T x v l r)) (plans l) (λ a c h j q. inr (inl (goes_left a h, goes_left c j, q))) (ordered l (kept x v T) lb t.2))
      (ordered_by (Before r) (Before (fork T x v l r)) (plans r) (λ a c h j q. inr (inr (goes-right a h, goes-right c j, q))) (ordered r (dropped x v T) rb t.3))
      (λ a c h j. inl (goes_left a h, goes-right c j))

  pub apart : (t : Tree) (D : Table) → Bounded P D → TreeOf P R D t → Ordered ◌≢◌ (plans t)
  apart t D b h = ordered_by (Before t) ◌≢◌ (plans t) (λ a c k l q e. never t a (subst (Before t a) (sym e) q)) (ordered t D b h)
    where
      never : (s : Tree) (a : List ℕ) → Before s a a → ⊥
      never dead a q = q
      never (plan c) a q = q
      never (fork T x v l r) a (inl q) = q.1 q.0
      never (fork T x v l r) a (inr (inl q)) = never l a q.2
      never (fork T x v l r) a (inr (inr q)) = never r a q.2
