-- What filtering makes of a table is one, and filtering twice is filtering once. Assumes nothing.
use Rattle.std.proofs.Common.{◌≡◌, ℕ, ◌↔◌, refl, ap, ⊎_elim}
use Rattle.std.proofs.lemmas.Bool.{or_cases}
use Rattle.tree.specs.Tables.{Table, Inside, join, kept, dropped}
use Rattle.tree.specs.Filter.{Problem, Bounded, Fits, Filtered, Node, failed, table, NodeOf}
use Rattle.tree.proofs.Tables.{inside_both, inside_trans, kept-inside, dropped-inside, kept_again, dropped_again}

module _ (P : Problem) where
  pub bounded-inside : (S T : Table) → Inside S T → Bounded P T → Bounded P S
  bounded-inside S T f b x v h = b x v (f x v h)

  pub join-bounded : (S T : Table) → Bounded P S → Bounded P T → Bounded P (join S T)
  join-bounded S T b c x v h = ⊎_elim (b x v) (c x v) (or_cases (S x v) (T x v) h)

  pub filtered_bounded : (D T : Table) → Filtered P D T → Bounded P D → Bounded P T
  filtered_bounded D T f b = bounded-inside T D f.fits.inside b

  pub kept-bounded : (x v : ℕ) (D T : Table) → Filtered P D T → Bounded P D → Bounded P (kept x v T)
  kept-bounded x v D T f b = bounded-inside (kept x v T) T (kept-inside x v T) (filtered_bounded D T f b)

  pub dropped-bounded : (x v : ℕ) (D T : Table) → Filtered P D T → Bounded P D → Bounded P (dropped x v T)
  dropped-bounded x v D T f b = bounded-inside (dropped x v T) T (dropped-inside x v T) (filtered_bounded D T f b)

  pub fits_wider : (D E S : Table) → Inside S E → Fits P D S → Fits P E S
  fits_wider D E S i f = record { inside = i; full = f.full; stable = f.stable }

  pub filtered_unique : (D S T : Table) → Filtered P D S → Filtered P D T → S ≡ T
  filtered_unique D S T f g = inside_both S T (g.largest S f.fits) (f.largest T g.fits)

  pub node_unique : (D : Table) (M N : Node) → NodeOf P D M → NodeOf P D N → M ≡ N
  node_unique D failed failed f g = refl
  node_unique D failed (table T) f g = absurd (f T g.fits)
  node_unique D (table S) failed f g = absurd (g S f.fits)
  node_unique D (table S) (table T) f g = ap table (filtered_unique D S T f g)

  -- the same tables fit D and E
  abbrev pub Alike : Table → Table → Type 0
  Alike D E = (S : Table) → (Fits P D S → Fits P E S) × (Fits P E S → Fits P D S)

  pub filtered_alike : (D E T : Table) → Alike D E → Filtered P D T → Filtered P E T
  filtered_alike D E T k h = record { fits = (k T).0 h.fits; largest = λ S e. h.largest S ((k S).1 e) }

  pub node_alike : (D E : Table) (N : Node) → Alike D E → NodeOf P D N → NodeOf P E N
  node_alike D E failed k h = λ S e. h S ((k S).1 e)
  node_alike D E (table T) k h = filtered_alike D E T k h

  module _ (D T : Table) (filtered : Filtered P D T) (x v : ℕ) where
    -- what fits a part of D is inside T, so that it fits the same part of T
    low : (E S : Table) → Inside E D → Fits P E S → Inside S T
    low E S i f = filtered.largest S (fits_wider E D S (inside_trans S E D f.inside i) f)

    up : (E S : Table) → Inside E T → Fits P E S → Inside S D
    up E S i f = inside_trans S T D (inside_trans S E T f.inside i) filtered.fits.inside

    pub kept_alike : Alike (kept x v T) (kept x v D)
    kept_alike S = (
      λ f. fits_wider (kept x v T) (kept x v D) S (kept_again x v S D T (up (kept x v T) S (kept-inside x v T) f) f.inside) f,
      λ f. fits_wider (kept x v D) (kept x v T) S (kept_again x v S T D (low (kept x v D) S (kept-inside x v D) f) f.inside) f,
    )

    pub dropped_alike : Alike (dropped x v T) (dropped x v D)
    dropped_alike S = (
      λ f. fits_wider (dropped x v T) (dropped x v D) S (dropped_again x v S D T (up (dropped x v T) S (dropped-inside x v T) f) f.inside) f,
      λ f. fits_wider (dropped x v D) (dropped x v T) S (dropped_again x v S T D (low (dropped x v D) S (dropped-inside x v D) f) f.inside) f,
    )

    pub kept-once : (N : Node) → NodeOf P (kept x v T) N ↔ NodeOf P (kept x v D) N
    kept-once N = (node_alike (kept x v T) (kept x v D) N kept_alike, node_alike (kept x v D) (kept x v T) N (λ S. ((kept_alike S).1, (kept_alike S).0)))

    pub dropped-once : (N : Node) → NodeOf P (dropped x v T) N ↔ NodeOf P (dropped x v D) N
    dropped-once N = (node_alike (dropped x v T) (dropped x v D) N dropped_alike, node_alike (dropped x v D) (dropped x v T) N (λ S. ((dropped_alike S).1, (dropped_alike S).0)))
