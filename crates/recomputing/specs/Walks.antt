-- The nodes along a path. Assumes nothing.
use Rattle.std.specs.Prelude.{◌≡◌, ℕ, zero, suc, ◌+◌, ◌*◌, ◌-◌, ◌<◌, ◌≤◌, true, List, [], ◌∷◌, length, get_or, Some, None, reverse, refl}
use Rattle.std.proofs.Common.{ap, ◌∙◌, subst, arith, mul-le-mul}
use Rattle.std.proofs.lemmas.List.{length-reverse, get_or-reverse}
use Rattle.tree.specs.Tables.{Table, Inside, Choice, kept, dropped}
use Rattle.tree.specs.Filter.{Problem, Lawful, Bounded, Node, failed, table, NodeOf}
use Rattle.tree.specs.Find.{node, grid, total}
use Rattle.tree.proofs.Tables.{inside_trans, kept-inside, dropped-inside}
use Rattle.tree.proofs.Filter.{bounded-inside, node_unique, kept-once, dropped-once}
use Rattle.tree.proofs.Exists.{node-is}
use Rattle.tree.proofs.Pairs.{count-inside, count-grid, kept_less, dropped_less}
use Rattle.spaces.specs.Pile.{Stands}
use Rattle.spaces.proofs.Singles.{stands-bounded}
use Rattle.spaces.proofs.Stand.{stands-first, stands-taken, stands-dropped}
use Rattle.recomputing.specs.Walk.{decide, replayed, after, top, under, taken, variable, value, Made, Walked, Ranged, last_take}
use Rattle.recomputing.specs.declared.path.Step.{Step}
use Rattle.recomputing.specs.declared.path.Step.TheVariants.{Take, Drop}

pub decide-inside : (s : Step) (T : Table) → Inside (decide s T) T
decide-inside (Take x v) T = kept-inside x v T
decide-inside (Drop x v) T = dropped-inside x v T

pub replayed-inside : (B : Table) (ss : List Step) → Inside (replayed B ss) B
replayed-inside B [] x v h = h
replayed-inside B (s ∷ ss) x v h = replayed-inside B ss x v (decide-inside s (replayed B ss) x v h)

module _ (P : Problem) (laws : Lawful P) where
  -- filtering once after a step is the same whether or not the table was filtered before it
  step_is : (s : Step) (D : Table) (N : Node) → Bounded P D → NodeOf P D N → Made N s → NodeOf P (decide s D) (after P s N)
  step_is s D failed b h m = absurd m
  step_is (Take x v) D (table T) b h m = (kept-once P D T h x v (node P (kept x v T))).0 (node-is P laws (kept x v T) (bounded-inside P (kept x v T) D (inside_trans (kept x v T) T D (kept-inside x v T) h.fits.inside) b))
  step_is (Drop x v) D (table T) b h m = (dropped-once P D T h x v (node P (dropped x v T))).0 (node-is P laws (dropped x v T) (bounded-inside P (dropped x v T) D (inside_trans (dropped x v T) T D (dropped-inside x v T) h.fits.inside) b))

  module _ (B : Table) (bounded : Bounded P B) where
    pub replayed-bounded : (ss : List Step) → Bounded P (replayed B ss)
    replayed-bounded ss = bounded-inside P (replayed B ss) B (replayed-inside B ss) bounded

    -- the node that a path leads to is what one filtering after a replay makes
    pub top_of : (ss : List Step) → Walked P B ss → NodeOf P (replayed B ss) (top P B ss)
    top_of [] w = node-is P laws B bounded
    top_of (s ∷ ss) w = step_is s (replayed B ss) (top P B ss) (replayed-bounded ss) (top_of ss w.1) w.0

    pub top_unique : (ss : List Step) (N : Node) → Walked P B ss → NodeOf P (replayed B ss) N → top P B ss ≡ N
    top_unique ss N w h = node_unique P (replayed B ss) (top P B ss) N (top_of ss w) h

    -- a filtered node along the path is bounded
    pub top-bounded : (ss : List Step) (T : Table) → Walked P B ss → top P B ss ≡ table T → Bounded P T
    top-bounded ss T w e =
        let h : NodeOf P (replayed B ss) (table T) = subst (NodeOf P (replayed B ss)) e (top_of ss w) in
        bounded-inside P T (replayed B ss) h.fits.inside (replayed-bounded ss)

    stands-take : (x v : ℕ) (N : Node) (p : List Node) (cs : List (ℕ × ℕ)) → Made N (Take x v) → Stands P N p cs → Stands P (after P (Take x v) N) (N ∷ p) ((x, v) ∷ cs)
    stands-take x v failed p cs m st = absurd m
    stands-take x v (table T) p cs m st =
        stands-taken P (node P (kept x v T)) T p cs x v st m (node-is P laws (kept x v T) (bounded-inside P (kept x v T) T (kept-inside x v T) (stands-bounded P T p cs st)))

    stands-drop : (x v : ℕ) (N : Node) (p : List Node) (cs : List (ℕ × ℕ)) → Made N (Drop x v) → Stands P N p cs → Stands P (after P (Drop x v) N) p cs
    stands-drop x v failed p cs m st = absurd m
    stands-drop x v (table T) p cs m st =
        stands-dropped P (node P (dropped x v T)) T p cs x v st (node-is P laws (dropped x v T) (bounded-inside P (dropped x v T) T (dropped-inside x v T) (stands-bounded P T p cs st)))

    pub walked-stands : (ss : List Step) → Walked P B ss → Stands P (top P B ss) (under P B ss) (taken ss)
    walked-stands [] w = stands-first P B (node P B) bounded (node-is P laws B bounded)
    walked-stands (Take x v ∷ ss) w = stands-take x v (top P B ss) (under P B ss) (taken ss) w.0 (walked-stands ss w.1)
    walked-stands (Drop x v ∷ ss) w = stands-drop x v (top P B ss) (under P B ss) (taken ss) w.0 (walked-stands ss w.1)

    made-has : (N : Node) (D : Table) (s : Step) → Bounded P D → NodeOf P D N → Made N s → (variable s < P.variables) × (value s < P.width)
    made-has failed D s b h m = absurd m
    made-has (table T) D s b h m = b (variable s) (value s) (h.fits.inside (variable s) (value s) m.has)

    pub walked_ranged : (ss : List Step) → Walked P B ss → Ranged P.variables P.width ss
    walked_ranged [] w = tt
    walked_ranged (s ∷ ss) w = (made-has (top P B ss) (replayed B ss) s (replayed-bounded ss) (top_of ss w.1) w.0, walked_ranged ss w.1)

    -- each step removes a value

    decide_less : (s : Step) (T : Table) → Bounded P T → Choice T (variable s) (value s) → total P (decide s T) < total P T
    decide_less (Take x v) T b ch = kept_less P T x v b ch.is_open
    decide_less (Drop x v) T b ch = dropped_less P T x v b ch.has

    abbrev Room : Node → ℕ → Type 0
    Room failed m = Unit {0}
    Room (table T) m = total P T + m ≤ total P B

    room-node : (D : Table) (N : Node) (m : ℕ) → NodeOf P D N → total P D + m ≤ total P B → Room N m
    room-node D failed m h l = tt
    room-node D (table T) m h l = let i = count-inside (grid P.variables P.width) T D h.fits.inside in omega arith

    room-step : (s : Step) (D : Table) (N : Node) (m : ℕ) → Bounded P D → NodeOf P D N → Made N s → Room N m → Room (after P s N) (suc m)
    room-step s D failed m b h k r = absurd k
    room-step s D (table T) m b h k r =
        let bt : Bounded P T = bounded-inside P T D h.fits.inside b in
        let less = decide_less s T bt k in
        room-node (decide s T) (node P (decide s T)) (suc m) (node-is P laws (decide s T) (bounded-inside P (decide s T) T (decide-inside s T) bt)) (omega arith)

    room : (ss : List Step) → Walked P B ss → Room (top P B ss) (length ss)
    room [] w = room-node B (node P B) 0 (node-is P laws B bounded) (omega arith)
    room (s ∷ ss) w = room-step s (replayed B ss) (top P B ss) (length ss) (replayed-bounded ss) (top_of ss w.1) w.0 (room ss w.1)

    -- so there is room on the path for a step more
    pub path_room : (ss : List Step) (T : Table) (x v : ℕ) → P.variables ≤ 64 → P.width ≤ 64 → Walked P B ss → top P B ss ≡ table T → T x v ≡ true → length ss < 4096
    path_room ss T x v n w k e h =
        let r : Room (table T) (length ss) = subst (λ (N : Node). Room N (length ss)) e (room ss k) in
        let c = count-grid P.variables P.width B in
        let g : P.variables * P.width ≤ 64 * 64 = mul-le-mul n w in
        let d = dropped_less P T x v (top-bounded ss T k e) h in
        omega arith

-- cut back to the newest take

pub record Cut (P : Problem) (B : Table) (ss rs : List Step) (x v : ℕ) : Type 0 where
  pub taken_is : taken ss ≡ (x, v) ∷ taken rs
  pub under_is : under P B ss ≡ top P B rs ∷ under P B rs
  pub walked : Walked P B rs
  pub made : Made (top P B rs) (Take x v)

pub cut : (P : Problem) (B : Table) (ss rs : List Step) (x v : ℕ) → Walked P B ss → last_take ss ≡ Some (rs, (x, v)) → Cut P B ss rs x v
cut P B [] rs x v w e = let z : ◌≡◌ {A = ℕ} 0 1 = cc in let y : ⊥ = omega arith in absurd y
cut P B (Take y u ∷ qs) rs x v w e =
    let pr : (qs, (y, u)) ≡ (rs, (x, v)) = cc in
    let first : Cut P B (Take y u ∷ qs) qs y u = record { taken_is = refl; under_is = refl; walked = w.1; made = w.0 } in
    subst (λ (z : List Step × (ℕ × ℕ)). Cut P B (Take y u ∷ qs) z.0 z.1.0 z.1.1) pr first
cut P B (Drop y u ∷ qs) rs x v w e = let h = cut P B qs rs x v w.1 e in record { taken_is = h.taken_is; under_is = h.under_is; walked = h.walked; made = h.made }

pub no_take : (ss : List Step) → last_take ss ≡ None → length (taken ss) ≡ 0
no_take [] e = refl
no_take (Take x v ∷ ss) e = let z : ◌≡◌ {A = ℕ} 0 1 = cc in let y : ⊥ = omega arith in absurd y
no_take (Drop x v ∷ ss) e = no_take ss e

pub made_table : (N : Node) (s : Step) → Made N s → (T : Table) × (N ≡ table T) × Choice T (variable s) (value s)
made_table failed s m = absurd m
made_table (table T) s m = (T, refl, m)

pub under-length : (P : Problem) (B : Table) (ss : List Step) → length (under P B ss) ≡ length (taken ss)
under-length P B [] = refl
under-length P B (Take x v ∷ ss) = ap suc (under-length P B ss)
under-length P B (Drop x v ∷ ss) = under-length P B ss

ranged_get : (n w : ℕ) (ss : List Step) (j : ℕ) → Ranged n w ss → j < length ss → (variable (get_or ss j (Take 0 0)) < n) × (value (get_or ss j (Take 0 0)) < w)
ranged_get n w [] j r h = let z : ⊥ = omega arith in absurd z
ranged_get n w (s ∷ ss) zero r h = r.0
ranged_get n w (s ∷ ss) (suc j) r h = ranged_get n w ss j r.1 (omega arith)

pub ranged_at : (n w : ℕ) (path : List Step) (i : ℕ) → Ranged n w (reverse path) → i < length path → (variable (get_or path i (Take 0 0)) < n) × (value (get_or path i (Take 0 0)) < w)
ranged_at n w path i r h =
    let j : ℕ = length path - 1 - i in
    let l = length-reverse path in
    let k : length path - 1 - j ≡ i = omega arith in
    let e : get_or (reverse path) j (Take 0 0) ≡ get_or path i (Take 0 0) = get_or-reverse path j (Take 0 0) (omega arith) ∙ ap (λ (q : ℕ). get_or path q (Take 0 0)) k in
    subst (λ (s : Step). (variable s < n) × (value s < w)) e (ranged_get n w (reverse path) j r (omega arith))
