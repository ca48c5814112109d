-- The steps of a pass. Assumes nothing.
use Rattle.std.proofs.Common.{◌≡◌, ℕ, ◌+◌, ◌<◌, ◌≤◌, Bool, true, false, ◌≢◌, List, length, ℤ, pos, ◌+ℤ◌, ◌-ℤ◌, ◌*ℤ◌, ◌≤ℤ◌, Some, None, Ok, Err, Option, sym, refl, ap, ◌∙◌, subst, ap₂, ⊎_elim, arith}
use lib.Signed.{le_z}
use Rattle.std.proofs.lemmas.Int.{ints}
use Rattle.std.proofs.lemmas.Bool.{both_ways, cases_Bool, cases_eq, cases_lt}
use Rattle.bits.specs.Bit.{has, Empty}
use Rattle.bits.specs.declared.Set.{Set}
use Rattle.tree.specs.Tables.{Table, Inside, dropped}
use Rattle.tree.proofs.Tables.{dropped-inside, dropped-has, dropped-not}
use Rattle.model.specs.declared.values.Term.{Term}
use Rattle.model.specs.Values.{at_most}
use Rattle.tables.specs.States.{TableState, Bounds, with_domains}
use Rattle.tables.specs.declared.table.TableFault.{TableFault}
use Rattle.kinds.specs.Demands.{Demand, demand_of}
use Rattle.kinds.specs.Laws.{Filled}
use Rattle.kinds.specs.Passes.{Alive, Dead}
use Rattle.kinds.specs.Sofar.{Sofar}
use Rattle.kinds.specs.declared.shrunk.Shrunk.{Shrunk}
use Rattle.kinds.specs.declared.shrunk.Shrunk.TheVariants.{Live, Failed}
use Rattle.kinds.specs.Shrunk.{set_of, has_failed}
use Rattle.kinds.proofs.Passing.{sofar-none, nothing_yet}
use Rattle.atmost.specs.Laws.{term-listed}
use Rattle.atmost.specs.Linear.{low, lows, term, others, listed, all_within, stable, meets}
use Rattle.atmost.specs.Trims.{End, Barred, Trimmed}
use Rattle.atmost.specs.Ends.{mul-up, mul_down, lows_split}
use Rattle.atmost.proofs.Ends.{low_larger}
use Rattle.atmost.specs.Laws.{others-listed, stable-to, stable-from}
use Rattle.atmost.proofs.Laws.{lows_larger}

-- ---- one term

-- where the far end of a domain was taken away so many times a value can still be
abbrev pub Left : Bool → ℕ → ℕ → Type 0
Left true turn v = v + turn < 256
Left false turn v = turn ≤ v

-- the coefficient is not negative: its far end is the greatest value
abbrev pub upward : ℤ → Bool
upward a = le_z (pos 0) a

pub record Going (n : ℕ) (A : Demand) (s : TableState) (t : Term) (before : TableState) (turn : ℕ) (found : Set) (u : TableState) : Type 0 where
  pub sofar : Sofar n A s found u
  pub variables : u.variables ≡ before.variables
  pub apart : (z v : ℕ) → z ≢ t.variable → before.domains z v ≡ true → u.domains z v ≡ true
  pub none : Empty (has found.word) → u ≡ before
  pub left : (v : ℕ) → u.domains t.variable v ≡ true → Left (upward t.coefficient) turn v

module _ (n : ℕ) (A : Demand) (s : TableState) (t : Term) where
  pub going_none : (before : TableState) (found : Set) → Bounds before → Sofar n A s found before → Going n A s t before 0 found before
  going_none before found b so = record {
    sofar = so;
    variables = refl;
    apart = λ z v d h. h;
    none = λ e. refl;
    left = λ v h. start (upward t.coefficient) v h;
  }
    where
      start : (up : Bool) (v : ℕ) → before.domains t.variable v ≡ true → Left up 0 v
      start true v h = omega (arith, (b.within t.variable v h).1, b.narrow)
      start false v h = omega arith

  -- the far end was taken
  pub going_drop : (before : TableState) (turn : ℕ) (found more : Set) (u w : TableState) (v : ℕ) → Going n A s t before turn found u
      → End u t.variable (upward t.coefficient) (Ok (Some v)) → Sofar n A s more w → w ≡ with_domains u (dropped t.variable v u.domains) → has more.word t.variable ≡ true → Going n A s t before (turn + 1) more w
  going_drop before turn found more u w v go end so e grown = record {
    sofar = so;
    variables = ap (λ (z : TableState). z.variables) e ∙ go.variables;
    apart = λ z k d h. ap (λ (b : TableState). b.domains z k) e ∙ dropped-has x v u.domains z k (go.apart z k d h) (λ q. d q.0);
    none = λ z. absurd (both_ways (has more.word x) (z x) grown);
    left = λ k h.
        let p = ap (λ (b : TableState). b.domains x k) (sym e) ∙ h in
        further (upward t.coefficient) end go.left k (dropped-inside x v u.domains x k p) (λ q. dropped-not x v u.domains x k p (refl, q));
  }
    where
      x : ℕ
      x = t.variable

      further : (up : Bool) → End u x up (Ok (Some v)) → ((k : ℕ) → u.domains x k ≡ true → Left up turn k) → (k : ℕ) → u.domains x k ≡ true → (k ≡ v → ⊥) → Left up (turn + 1) k
      further true g f k h d =
          let l : k < v = ⊎_elim (λ z. absurd (both_ways (u.domains x k) (g.1.1 k z) h)) (λ z. omega (arith, z, d)) (cases_lt v k) in
          omega (arith, l, f v g.1.0)
      further false g f k h d =
          let l : v < k = ⊎_elim (λ z. absurd (both_ways (u.domains x k) (g.1.1 k z) h)) (λ z. omega (arith, z, d)) (cases_lt k v) in
          omega (arith, l, f v g.1.0)

  -- the far end is above the room: no stable table has it
  pub far_barred : (room : ℤ) (v : ℕ) → Barred n A s t room → le_z (t.coefficient *ℤ pos v) room ≡ false
      → (S : Table) → Filled n S → A.stable S ≡ true → Inside S s.domains → S t.variable v ≡ false
  far_barred room v bar over S f st ins = ⊎_elim (λ h. let p = bar S f st ins v h in absurd (omega (arith, ints))) (λ h. h) (cases_Bool (S t.variable v))

-- the far end is within the room: so is every value
pub far-end : (u : TableState) (t : Term) (room : ℤ) (v : ℕ) → End u t.variable (upward t.coefficient) (Ok (Some v)) → (t.coefficient *ℤ pos v) ≤ℤ room
    → (u.domains t.variable v ≡ true) × ((k : ℕ) → u.domains t.variable k ≡ true → (t.coefficient *ℤ pos k) ≤ℤ room)
far-end u t room v end fits = by (upward t.coefficient) refl end
  where
    x : ℕ
    x = t.variable

    a : ℤ
    a = t.coefficient

    by : (up : Bool) → upward a ≡ up → End u x up (Ok (Some v)) → (u.domains x v ≡ true) × ((k : ℕ) → u.domains x k ≡ true → (a *ℤ pos k) ≤ℤ room)
    by true e g = (
      g.1.0,
      λ k h.
          let l : k ≤ v = ⊎_elim (λ z. absurd (both_ways (u.domains x k) (g.1.1 k z) h)) (λ z. z) (cases_lt v k) in
          let m = mul-up a k v (sym (omega (arith, ints))) l in omega (arith, ints),
    )
    by false e g = (
      g.1.0,
      λ k h.
          let l : v ≤ k = ⊎_elim (λ z. absurd (both_ways (u.domains x k) (g.1.1 k z) h)) (λ z. z) (cases_lt k v) in
          let m = mul_down a v k (sym (omega (arith, ints))) l in omega (arith, ints),
    )

module _ (n : ℕ) (A : Demand) (s : TableState) (t : Term) (room : ℤ) (before : TableState) (turn : ℕ) (found : Set) (u : TableState) (go : Going n A s t before turn found u) where
  pub trim_ends : (v : ℕ) → End u t.variable (upward t.coefficient) (Ok (Some v)) → (t.coefficient *ℤ pos v) ≤ℤ room → Trimmed n A s t room before (Live found) u
  trim_ends v end fits = record {
    sofar = go.sofar;
    apart = λ z d a. (a.0, go.apart z a.0 d a.1);
    empty = λ e. absurd (both_ways false refl e);
    full = λ e. (v, p.0);
    none = λ e z. let q = go.none z in (q, λ k h. p.1 k (ap (λ (b : TableState). b.domains t.variable k) q ∙ h));
  }
    where
      p : (u.domains t.variable v ≡ true) × ((k : ℕ) → u.domains t.variable k ≡ true → (t.coefficient *ℤ pos k) ≤ℤ room)
      p = far-end u t room v end fits

  pub trim_empty : Dead u.domains t.variable → Trimmed n A s t room before (Failed found) u
  trim_empty none = record {
    sofar = go.sofar;
    apart = λ z d a. (a.0, go.apart z a.0 d a.1);
    empty = λ e. none;
    full = λ e. absurd (both_ways true e refl);
    none = λ e. absurd (both_ways true e refl);
  }

  -- after so many turns nothing is left
  pub going_all : Bounds u → 256 ≤ turn → Dead u.domains t.variable
  going_all b l v = ⊎_elim (λ h. absurd (by (upward t.coefficient) h (go.left v h))) (λ h. h) (cases_Bool (u.domains t.variable v))
    where
      by : (up : Bool) → u.domains t.variable v ≡ true → Left up turn v → ⊥
      by true h m = omega (arith, m, l)
      by false h m = omega (arith, m, l, (b.within t.variable v h).1, b.narrow)

-- the far end as the code has it
pub end-some : (u : TableState) (x : ℕ) (a b : ℤ) (o : Option ℕ) (v : ℕ) → b ≡ a → o ≡ Some v → End u x (upward b) (Ok o) → End u x (upward a) (Ok (Some v))
end-some u x a b o v e is h = subst (λ (z : ℤ). End u x (upward z) (Ok (Some v))) e (subst (λ (z : Option ℕ). End u x (upward b) (Ok z)) is h)

pub end-here : (u : TableState) (x : ℕ) (up : Bool) (v : ℕ) → End u x up (Ok (Some v)) → u.domains x v ≡ true
end-here u x true v h = h.1.0
end-here u x false v h = h.1.0

pub end_none : (u : TableState) (x : ℕ) (up : Bool) (o : Option ℕ) → o ≡ None → End u x up (Ok o) → Dead u.domains x
end_none u x up o is h = by up (subst (λ (z : Option ℕ). End u x up (Ok z)) is h)
  where
    by : (t : Bool) → End u x t (Ok None) → Dead u.domains x
    by true g = g.1
    by false g = g.1

pub end_err : (u : TableState) (x : ℕ) (up : Bool) (e : TableFault) → End u x up (Err e) → u.variables ≤ x
end_err u x true e h = h.0
end_err u x false e h = h.0

-- ---- all terms

-- The terms before k were looked at.
pub record Main (n : ℕ) (ts : List Term) (b : ℤ) (s : TableState) (k : ℕ) (set : Set) (u : TableState) : Type 0 where
  pub sofar : Sofar n (demand_of stable meets s.width (at_most b ts)) s set u
  pub full : (z : ℕ) → Alive s.domains z → Alive u.domains z
  pub none : Empty (has set.word) → (u ≡ s) × ((j : ℕ) → j < k → (v : ℕ) → s.domains (term ts j).variable v ≡ true → ((term ts j).coefficient *ℤ pos v +ℤ lows s.width s.domains (others ts j)) ≤ℤ b)

-- the room of the term at k, with the sum of the lows at the start, and its own low now
abbrev pub Room : List Term → ℤ → TableState → ℕ → TableState → ℤ → Type 0
Room ts b s k u room = room ≡ b -ℤ (lows s.width s.domains ts -ℤ low s.width (u.domains (term ts k).variable) (term ts k).coefficient)

module _ (n : ℕ) (ts : List Term) (b : ℤ) (s : TableState) where
  pub main_none : (set : Set) → Empty (has set.word) → Main n ts b s 0 set s
  main_none set none = record { sofar = sofar-none n (demand_of stable meets s.width (at_most b ts)) s set none; full = λ z a. a; none = λ e. (refl, λ j l. absurd (omega arith)) }

  pub room_barred : (k : ℕ) (set : Set) (u : TableState) (room : ℤ) → Bounds s → k < length ts → ((x : ℕ) → listed ts x ≡ true → x < n)
      → Main n ts b s k set u → Alive u.domains (term ts k).variable → Room ts b s k u room → Barred n (demand_of stable meets s.width (at_most b ts)) s (term ts k) room
  room_barred k set u room bs l small m alive r S f st ins v h =
      let w = s.width in
      let x = (term ts k).variable in
      let a = (term ts k).coefficient in
      let p = stable-to w ts b S st k l v (bs.within x v (ins x v h)).1 h in
      let q = lows_larger w S s.domains (others ts k) ins (λ y z g. (bs.within y z (ins y z g)).1) (λ y g. f y (small y (others-listed ts k y g))) in
      let e = lows_split w s.domains ts k l in
      let o = low_larger w (u.domains x) (s.domains x) a (m.sofar.narrows.inside x) (λ z g. (bs.within x z (m.sofar.narrows.inside x z g)).1) alive.0 alive.1 in
      omega (arith, ints, p, q, e, o, r)

  pub main_trim : (k : ℕ) (set : Set) (t : TableState) (room : ℤ) (r : Shrunk) (u : TableState) → k < length ts
      → Main n ts b s k set t → Room ts b s k t room → Trimmed n (demand_of stable meets s.width (at_most b ts)) s (term ts k) room t r u → has_failed r ≡ false → Main n ts b s (k + 1) (set_of r) u
  main_trim k set t room r u l m is e nf = record {
    sofar = e.sofar;
    full = λ z a. ⊎_elim (λ q. subst (Alive u.domains) (sym q) (e.full nf)) (λ d. e.apart z d (m.full z a)) (cases_eq z (term ts k).variable);
    none = λ z.
        let p = e.none nf z in
        let q = m.none (yet z) in (
          p.0 ∙ q.0,
          λ j h v g. ⊎_elim
              (λ same. subst (λ (i : ℕ). s.domains (term ts i).variable v ≡ true → ((term ts i).coefficient *ℤ pos v +ℤ lows s.width s.domains (others ts i)) ≤ℤ b) (sym same) (last v q.0 p.1) g)
              (λ d. q.1 j (omega (arith, h, d)) v g) (cases_eq j k),
        );
  }
    where
      yet : Empty (has (set_of r).word) → Empty (has set.word)
      yet z = nothing_yet n (demand_of stable meets s.width (at_most b ts)) s set (set_of r) t u m.sofar e.sofar (e.none nf z).0 z

      last : (v : ℕ) → t ≡ s → ((v : ℕ) → t.domains (term ts k).variable v ≡ true → ((term ts k).coefficient *ℤ pos v) ≤ℤ room)
          → s.domains (term ts k).variable v ≡ true → ((term ts k).coefficient *ℤ pos v +ℤ lows s.width s.domains (others ts k)) ≤ℤ b
      last v q f h =
          let g = f v (ap (λ (z : TableState). z.domains (term ts k).variable v) q ∙ h) in
          let c = lows_split s.width s.domains ts k l in
          let d = subst (λ (z : TableState). Room ts b s k z room) q is in
          omega (arith, ints, g, c, d)

  pub main_stable : (k : ℕ) (set : Set) (u : TableState) → length ts ≤ k → Main n ts b s k set u → Empty (has set.word) → all_within s.width ts b u.domains ≡ true
  main_stable k set u l m z =
      let p = m.none z in
      subst (λ (q : TableState). all_within s.width ts b q.domains ≡ true) (sym p.0) (stable-from s.width ts b s.domains (λ j h v vl g. p.1 j (omega (arith, l, h)) v g))

  pub room_of : (k : ℕ) (set : Set) (u : TableState) (all part room : ℤ) → Main n ts b s k set u
      → all ≡ lows s.width s.domains ts → part ≡ low u.width (u.domains (term ts k).variable) (term ts k).coefficient → room ≡ b -ℤ (all -ℤ part) → Room ts b s k u room
  room_of k set u all part room m e f r =
      r ∙ ap₂ (λ (x y : ℤ). b -ℤ (x -ℤ y)) e (f ∙ ap (λ (w : ℕ). low w (u.domains (term ts k).variable) (term ts k).coefficient) (ap (λ (z : TableState). z.width) m.sofar.narrows.others))

-- what the trimming of the term at k may assume
pub record Trimmable (n : ℕ) (A : Demand) (s : TableState) (t : Term) (room : ℤ) (set : Set) (u : TableState) : Type 0 where
  pub names : A.names t.variable ≡ true
  pub there : t.variable < u.variables
  pub barred : Barred n A s t room
  pub sofar : Sofar n A s set u

pub trimmable : (n : ℕ) (ts : List Term) (b : ℤ) (s : TableState) (k : ℕ) (set : Set) (u : TableState) (room : ℤ) → Bounds s → Bounds u → k < length ts → ((x : ℕ) → listed ts x ≡ true → x < n)
    → Main n ts b s k set u → Alive u.domains (term ts k).variable → Room ts b s k u room → Trimmable n (demand_of stable meets s.width (at_most b ts)) s (term ts k) room set u
trimmable n ts b s k set u room bs bu l small m alive r = record {
  names = term-listed ts k l;
  there = (bu.within (term ts k).variable alive.0 alive.1).0;
  barred = room_barred n ts b s k set u room bs l small m alive r;
  sofar = m.sofar;
}
