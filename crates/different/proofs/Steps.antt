-- The steps of a pass. Assumes nothing.
use Rattle.std.proofs.Common.{◌≡◌, ℕ, ◌+◌, ◌<◌, ◌≤◌, Bool, true, false, ◌&&◌, ◌||◌, ◌≢◌, List, length, get_or, Some, None, Ok, Option, sym, refl, ap, ◌∙◌, subst, ⊎_elim, arith}
use Rattle.std.proofs.lemmas.Bool.{both_ways, and_from, or_left, or_right, cases_Bool, cases_eq}
use Rattle.bits.specs.Bit.{has, Empty}
use Rattle.bits.specs.declared.Set.{Set}
use Rattle.tree.specs.Tables.{Inside, dropped}
use Rattle.tree.proofs.Tables.{dropped-has}
use Rattle.model.specs.Values.{different}
use Rattle.model.specs.Reading.{among}
use Rattle.tables.specs.States.{TableState, with_domains, Bounds}
use Rattle.tables.specs.Calls.{Leasts, Greatests}
use Rattle.kinds.specs.Demands.{Demand, demand_of}
use Rattle.kinds.specs.Passes.{Alive}
use Rattle.kinds.specs.Sofar.{Sofar}
use Rattle.kinds.specs.declared.shrunk.Shrunk.{Shrunk}
use Rattle.kinds.specs.Shrunk.{set_of, has_failed}
use Rattle.kinds.proofs.Passing.{sofar-none, nothing_yet}
use Rattle.different.specs.Different.{apart, stable, meets}
use Rattle.different.specs.Expels.{Alone, Crowds, Barred, Expelled}
use Rattle.different.specs.Lists.{pairs-from, pairs-to}
use Rattle.kinds.specs.Listed.{among-at}
use Rattle.different.proofs.Laws.{apart-to, apart_from}

-- Of the listed variables those before the place k were looked at, but for x.
pub record Going (n : ℕ) (A : Demand) (s : TableState) (xs : List ℕ) (x v : ℕ) (t : TableState) (k : ℕ) (found : Set) (u : TableState) : Type 0 where
  pub sofar : Sofar n A s found u
  pub variables : u.variables ≡ t.variables
  pub width : u.width ≡ t.width
  pub full : (z : ℕ) → Alive t.domains z → Alive u.domains z
  pub none : Empty (has found.word) → (u ≡ t) × ((j : ℕ) → j < k → get_or xs j 0 ≢ x → t.domains (get_or xs j 0) v ≡ false)

module _ (n : ℕ) (A : Demand) (s : TableState) (xs : List ℕ) (x v : ℕ) (t : TableState) where
  pub going_none : (found : Set) → Sofar n A s found t → Going n A s xs x v t 0 found t
  going_none found so = record { sofar = so; variables = refl; width = refl; full = λ z a. a; none = λ e. (refl, λ j h. absurd (omega arith)) }

  -- the variable at k is x, or has not the value
  pub going_skip : (k : ℕ) (found : Set) (u w : TableState) → Going n A s xs x v t k found u → w ≡ u → (get_or xs k 0 ≢ x → u.domains (get_or xs k 0) v ≡ false) → Going n A s xs x v t (k + 1) found w
  going_skip k found u w go e f = subst (Going n A s xs x v t (k + 1) found) (sym e) (record {
    sofar = go.sofar;
    variables = go.variables;
    width = go.width;
    full = go.full;
    none = λ z. let p = go.none z in (
      p.0,
      λ j h d. ⊎_elim
          (λ q. ap (λ (i : ℕ). t.domains (get_or xs i 0) v) q ∙ ap (λ (b : TableState). b.domains (get_or xs k 0) v) (sym p.0) ∙ f (λ r. d (ap (λ (i : ℕ). get_or xs i 0) q ∙ r)))
          (λ q. p.1 j (omega arith) d) (cases_eq j k),
    );
  })

  -- other domains than that of y are as they were
  pub others_live : (u w : TableState) (y : ℕ) → w ≡ with_domains u (dropped y v u.domains) → (z : ℕ) → z ≢ y → Alive u.domains z → Alive w.domains z
  others_live u w y e z d a = (a.0, ap (λ (b : TableState). b.domains z a.0) e ∙ dropped-has y v u.domains z a.0 a.1 (λ q. d q.0))

  pub going_drop : (k y : ℕ) (found more : Set) (u w : TableState) → Going n A s xs x v t k found u
      → Sofar n A s more w → w ≡ with_domains u (dropped y v u.domains) → Alive w.domains y → has more.word y ≡ true → Going n A s xs x v t (k + 1) more w
  going_drop k y found more u w go so e alive grown = record {
    sofar = so;
    variables = ap (λ (z : TableState). z.variables) e ∙ go.variables;
    width = ap (λ (z : TableState). z.width) e ∙ go.width;
    full = λ z a. ⊎_elim (λ q. subst (Alive w.domains) (sym q) alive) (λ d. others_live u w y e z d (go.full z a)) (cases_eq z y);
    none = λ z. absurd (both_ways (has more.word y) (z y) grown);
  }

-- if x has one value, no other listed variable has it
abbrev pub Cleared : TableState → List ℕ → ℕ → Type 0
Cleared s xs x = (v : ℕ) → s.domains x v ≡ true → ((u : ℕ) → s.domains x u ≡ true → u ≡ v) → (y : ℕ) → among y xs ≡ true → y ≢ x → s.domains y v ≡ false

-- The listed variables before the place k were looked at.
pub record Main (n : ℕ) (A : Demand) (s : TableState) (xs : List ℕ) (k : ℕ) (set : Set) (u : TableState) : Type 0 where
  pub sofar : Sofar n A s set u
  pub full : (z : ℕ) → Alive s.domains z → Alive u.domains z
  pub none : Empty (has set.word) → (u ≡ s) × ((j : ℕ) → j < k → Cleared s xs (get_or xs j 0))

module _ (n : ℕ) (A : Demand) (s : TableState) (xs : List ℕ) where
  pub main_none : (set : Set) → Empty (has set.word) → Main n A s xs 0 set s
  main_none set none = record { sofar = sofar-none n A s set none; full = λ z a. a; none = λ e. (refl, λ j h. absurd (omega arith)) }

  pub main_skip : (k : ℕ) (set : Set) (u : TableState) → Main n A s xs k set u → Cleared u xs (get_or xs k 0) → Main n A s xs (k + 1) set u
  main_skip k set u m f = record {
    sofar = m.sofar;
    full = m.full;
    none = λ e. let p = m.none e in (
      p.0,
      λ j h. ⊎_elim
          (λ q. subst (λ (i : ℕ). Cleared s xs (get_or xs i 0)) (sym q) (subst (λ (b : TableState). Cleared b xs (get_or xs k 0)) p.0 f))
          (λ q. p.1 j (omega arith)) (cases_eq j k),
    );
  }

  pub main_expel : (k v : ℕ) (set : Set) (t : TableState) (r : Shrunk) (u : TableState)
      → Main n A s xs k set t → ((w : ℕ) → t.domains (get_or xs k 0) w ≡ true → w ≡ v)
      → Expelled n A s xs (get_or xs k 0) v t r u → has_failed r ≡ false → Main n A s xs (k + 1) (set_of r) u
  main_expel k v set t r u m only e nf = record {
    sofar = e.sofar;
    full = λ z a. e.full nf z (m.full z a);
    none = λ z.
        let p = e.none nf z in
        let q = m.none (yet z) in
        let j : Main n A s xs (k + 1) set t = main_skip k set t m (λ w h l y ny d. ap (t.domains y) (only w h) ∙ p.1 y ny d) in
        (p.0 ∙ q.0, (j.none (yet z)).1);
  }
    where
      yet : Empty (has (set_of r).word) → Empty (has set.word)
      yet z = nothing_yet n A s set (set_of r) t u m.sofar e.sofar (e.none nf z).0 z

module _ (n : ℕ) (s : TableState) (xs : List ℕ) (b : Bounds s) where
  A : Demand
  A = demand_of stable meets s.width (different xs)

  -- no stable table inside has the value of a single variable for another
  pub barred : (set : Set) (x v : ℕ) (t : TableState) → ((y : ℕ) → among y xs ≡ true → y < n) → among x xs ≡ true
      → Sofar n (demand_of stable meets s.width (different xs)) s set t → ((w : ℕ) → t.domains x w ≡ true → w ≡ v) → Barred n (demand_of stable meets s.width (different xs)) s xs x v
  barred set x v t small ax so only S f st ins y ay d =
      ⊎_elim (λ h. absurd (apart-to s.width x y S v (λ z w k. (b.within z w (ins z w k)).1) (pairs-to xs (apart s.width S) st x y ax ay (λ q. d (sym q)))
      (subst (λ (w : ℕ). S x w ≡ true) (lone g.0 g.1) g.1, lone) h)) (λ h. h) (cases_Bool (S y v))
    where
      lone : (w : ℕ) → S x w ≡ true → w ≡ v
      lone w h = only w (so.narrows.keeps S f st ins x w h)

      g : Alive S x
      g = f x (small x ax)

  -- all that is listed was looked at, and nothing was taken
  pub all_clear : (k : ℕ) → length xs ≤ k → ((j : ℕ) → j < k → Cleared s xs (get_or xs j 0)) → stable s.width (different xs) s.domains ≡ true
  all_clear k l clear =
      pairs-from xs (apart s.width s.domains) (λ x y ax ay d.
      apart_from s.width x y s.domains (λ z w h. (b.within z w h).1) (λ v p h.
      let i = among-at xs x ax in
      both_ways (s.domains y v) (subst (Cleared s xs) i.2 (clear i.0 (omega (arith, i.1, l))) v p.0 p.1 y ay (λ q. d (sym q))) h))

-- the answers of a table

pub least-some : (s : TableState) (x : ℕ) (o : Option ℕ) (v : ℕ) → o ≡ Some v → Leasts s x (Ok o) → s.domains x v ≡ true
least-some s x o v e h = (subst (λ (z : Option ℕ). Leasts s x (Ok z)) e h).1.0

pub greatest-some : (s : TableState) (x : ℕ) (o : Option ℕ) (v : ℕ) → o ≡ Some v → Greatests s x (Ok o) → s.domains x v ≡ true
greatest-some s x o v e h = (subst (λ (z : Option ℕ). Greatests s x (Ok z)) e h).1.0

pub alone_some : (s : TableState) (x : ℕ) (o : Option ℕ) (v : ℕ) → o ≡ Some v → Alone s x (Ok o) → (s.domains x v ≡ true) × ((u : ℕ) → s.domains x u ≡ true → u ≡ v)
alone_some s x o v e h = subst (λ (z : Option ℕ). Alone s x (Ok z)) e h

pub alone_none : (s : TableState) (x : ℕ) (o : Option ℕ) (xs : List ℕ) → o ≡ None → Alone s x (Ok o) → Cleared s xs x
alone_none s x o xs e h v t only y n d =
    let k = subst (λ (z : Option ℕ). Alone s x (Ok z)) e h v t in
    absurd (k.2 (only k.0 k.1))

pub crowds_some : (s : TableState) (x : ℕ) (twice : ℕ → Bool) (o : Option ℕ) (v : ℕ) → o ≡ Some v → Crowds s x twice (Ok o) → (s.domains x v ≡ true) × ((u : ℕ) → s.domains x u ≡ true → u ≡ v)
crowds_some s x twice o v e h = let p = subst (λ (z : Option ℕ). Crowds s x twice (Ok z)) e h in (p.0, p.1)

-- Of the listed variables before the place k each has a value, and what two of them have is in the second set.
pub record Seen (s : TableState) (xs : List ℕ) (k : ℕ) (once twice : ℕ → Bool) : Type 0 where
  pub live : (j : ℕ) → j < k → Alive s.domains (get_or xs j 0)
  pub one : (j v : ℕ) → j < k → s.domains (get_or xs j 0) v ≡ true → once v ≡ true
  pub two : (i j v : ℕ) → i < k → j < k → i ≢ j → s.domains (get_or xs i 0) v ≡ true → s.domains (get_or xs j 0) v ≡ true → twice v ≡ true

pub seen_none : (s : TableState) (xs : List ℕ) (once twice : ℕ → Bool) → Seen s xs 0 once twice
seen_none s xs once twice = record { live = λ j l. absurd (omega arith); one = λ j v l. absurd (omega arith); two = λ i j v l. absurd (omega arith) }

pub seen_more : (s : TableState) (xs : List ℕ) (k : ℕ) (once twice domain more both : ℕ → Bool) → Seen s xs k once twice
    → domain ≡ s.domains (get_or xs k 0) → Alive s.domains (get_or xs k 0)
    → ((v : ℕ) → more v ≡ (once v || domain v)) → ((v : ℕ) → both v ≡ (twice v || (once v && domain v))) → Seen s xs (k + 1) more both
seen_more s xs k once twice domain more both seen is alive adds joins = record {
  live = λ j l. ⊎_elim (λ e. subst (λ (i : ℕ). Alive s.domains (get_or xs i 0)) (sym e) alive) (λ ne. seen.live j (omega (arith, l, ne))) (cases_eq j k);
  one = λ j v l h. adds v ∙ ⊎_elim
      (λ e. or_right (once v) (domain v) (here j v e h))
      (λ ne. or_left (once v) (domain v) (seen.one j v (omega (arith, l, ne)) h))
      (cases_eq j k);
  two = λ i j v li lj d hi hj. joins v ∙ ⊎_elim
      (λ e. or_right (twice v) (once v && domain v) (and_from (once v) (domain v) (seen.one j v (omega (arith, lj, e, d)) hj) (here i v e hi)))
      (λ ne. ⊎_elim
      (λ e. or_right (twice v) (once v && domain v) (and_from (once v) (domain v) (seen.one i v (omega (arith, li, ne)) hi) (here j v e hj)))
      (λ nj. or_left (twice v) (once v && domain v) (seen.two i j v (omega (arith, li, ne)) (omega (arith, lj, nj)) d hi hj))
      (cases_eq j k))
      (cases_eq i k);
}
  where
    here : (j v : ℕ) → j ≡ k → s.domains (get_or xs j 0) v ≡ true → domain v ≡ true
    here j v e h = ap (λ (d : ℕ → Bool). d v) is ∙ ap (λ (i : ℕ). s.domains (get_or xs i 0) v) (sym e) ∙ h

-- a value that no two variables had at first is in no other domain now
pub crowds_none : (s t : TableState) (x : ℕ) (once twice : ℕ → Bool) (o : Option ℕ) (xs : List ℕ) (k : ℕ) → o ≡ None → Crowds t x twice (Ok o) → Seen s xs k once twice → length xs ≤ k → among x xs ≡ true → Inside t.domains s.domains → Cleared t xs x
crowds_none s t x once twice o xs k e h seen l ax ins v tv only y ay d =
    let n = subst (λ (z : Option ℕ). Crowds t x twice (Ok z)) e h v tv only in
    let i = among-at xs x ax in
    let j = among-at xs y ay in
    ⊎_elim
    (λ hy. absurd (both_ways (twice v) n (seen.two i.0 j.0 v (omega (arith, i.1, l)) (omega (arith, j.1, l)) (λ q. d (sym j.2 ∙ ap (λ (z : ℕ). get_or xs z 0) (sym q) ∙ i.2))
    (ap (λ (z : ℕ). s.domains z v) i.2 ∙ ins x v tv) (ap (λ (z : ℕ). s.domains z v) j.2 ∙ ins y v hy))))
    (λ hy. hy)
    (cases_Bool (t.domains y v))
