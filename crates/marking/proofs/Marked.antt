-- The moves of a marking space, over the meanings of its table. Assumes nothing.
use Rattle.std.proofs.Common.{◌≡◌, ℕ, suc, ◌-◌, ◌<◌, min, Bool, true, false, List, [], ◌∷◌, length, Some, None, Option, Ok, Err, Result, sym, refl, ap, ◌∙◌, subst, true≢false, arith}
use Rattle.std.specs.Option.{is_some}
use Rattle.tree.specs.Tables.{Table, Choice, kept, dropped}
use Rattle.tree.specs.Filter.{Bounded, Node, table}
use Rattle.model.specs.Values.{Value}
use Rattle.tables.specs.States.{TableState, with_domains, Within, Bounds}
use Rattle.tables.specs.Calls.{Marks, KeepsOnly, Drops, Restores}
use Rattle.kinds.specs.Demands.{Demands}
use Rattle.kinds.specs.Problems.{problem}
use Rattle.filtering.specs.Filters.{Begins}
use Rattle.filtering.specs.declared.filter.Start.TheVariants.{Changed}
use Rattle.spaces.specs.Pile.{piled, Stands}
use Rattle.spaces.specs.Tops.{shown, stacked}
use Rattle.spaces.specs.Bases.{Lands, Started, Starts}
use Rattle.spaces.specs.Calls.{Enters, Takes, Turns}
use Rattle.spaces.specs.declared.base.Top.{Top}
use Rattle.spaces.specs.declared.base.Top.TheVariants.{Live}
use Rattle.spaces.specs.declared.space.SpaceFault.{SpaceFault}
use Rattle.spaces.proofs.Bases.{declined}
use Rattle.spaces.proofs.Stand.{entered, took, turned, stands-first, stands-taken, stands-dropped, stands_settled, takes-fewer}
use Rattle.spaces.proofs.Filterings.{filtered, restored, begins_kept, begins_dropped}
use Rattle.marking.specs.Marks.{oldest, younger, pile_of, depth_over, marking, Running, Runs, Sound}

younger_cons : (T : Table) (Ts : List Table) (k : ℕ) → length Ts ≡ suc k → younger (T ∷ Ts) ≡ table T ∷ younger Ts
younger_cons T [] k e = let z : ⊥ = omega arith in absurd z
younger_cons T (U ∷ Ts) k e = refl

younger-length : (Ts : List Table) (k : ℕ) → length Ts ≡ suc k → suc (length (younger Ts)) ≡ length Ts
younger-length [] k e = let z : ⊥ = omega arith in absurd z
younger-length (T ∷ []) k e = refl
younger-length (T ∷ U ∷ Ts) k e = ap suc (younger-length (U ∷ Ts) (length Ts) refl)

oldest_any : (D T : Table) (Us : List Table) (j : ℕ) → length Us ≡ suc j → oldest D Us ≡ oldest T Us
oldest_any D T [] j h = let z : ⊥ = omega arith in absurd z
oldest_any D T (U ∷ Us) j h = refl

module _ (D : Demands) (m : Value) where
  abbrev n : ℕ
  n = length m.windows

  module _ (t : TableState) where
    -- the number of nodes is that of the marks
    pub nodes-marked : (o : Option Top) (cs : List (ℕ × ℕ)) → is_some o ≡ true → Runs D m t o cs → length (pile_of o t) ≡ length t.saved
    nodes-marked None cs e r = absurd (true≢false (sym e))
    nodes-marked (Some a) cs e r = younger-length t.saved (length cs) r.marked

    -- what holds where choices can be made
    pub alive : (o : Option Top) (cs : List (ℕ × ℕ)) → o ≡ Some Live → Runs D m t o cs → Running D m t Live cs
    alive o cs a r = subst (λ (q : Option Top). Runs D m t q cs) a r

    -- an open variable: fewer takes stand than there are variables
    pub count-below : (cs : List (ℕ × ℕ)) (x v : ℕ) → Running D m t Live cs → Choice t.domains x v → length cs < n
    count-below cs x v r ch = takes-fewer (problem D m t.width) t.domains (younger t.saved) cs x v r.stands ch

    -- the top of a run is stable
    pub top-stable : (cs : List (ℕ × ℕ)) → Running D m t Live cs → (problem D m t.width).stable t.domains ≡ true
    top-stable cs r = (stands_settled (problem D m t.width) (table t.domains) (younger t.saved) cs r.stands).stable

  -- a run begins

  pub enter_done : (Part0 Part : Type 0) (t t3 : TableState) (o : Option Top) (a : Top) (cs : List (ℕ × ℕ)) → Bounds t → Sound Part0 D m t o cs → Part → o ≡ None → Started D m t t3 a →
      Enters (marking D m t o cs) (marking D m t3 (Some a) cs) (Ok tt) × Sound Part D m t3 (Some a) cs
  enter_done Part0 Part t t3 (Some a0) a cs b sd part off st = let z : ◌≡◌ {A = ℕ} 0 1 = cc in let y : ⊥ = omega arith in absurd y
  enter_done Part0 Part t t3 None a cs b sd part off st =
      let P = problem D m t.width in
      let E : Table = t3.domains in
      let u : TableState = stacked t E (t.domains ∷ []) in
      let none : cs ≡ [] = sd.runs in
      let unsaved : [] ≡ t.saved = sym st.unmarked in
      let step : marking D m u (Some a) cs ≡ piled (marking D m t None cs) (shown a E ∷ []) [] =
      (λ i. record { problem = P; variables = t.variables; base = t.domains; saved = unsaved i; room = t.depth; pile = shown a E ∷ []; choices = none i; depth = depth_over t.depth }) in
      let bounded : Bounded P t.domains = subst (λ (q : ℕ). Within q t.width t.domains) st.variables b.within in (
        entered (marking D m t None cs) (marking D m t3 (Some a) cs) refl (record { variables = st.variables; unmarked = st.unmarked }) st.room
            (shown a E, st.node, ap (λ (s : TableState). marking D m s (Some a) cs) st.others ∙ step),
        subst (λ (s : TableState). Sound Part D m s (Some a) cs) (sym st.others) (record {
          part = part;
          lawful = sd.lawful;
          few = sd.few;
          runs = record {
            variables = st.variables;
            marked = ap suc (sym (ap length none));
            within = let z : length cs ≡ 0 = ap length none in let r = st.room in omega arith;
            stands = subst (λ (q : List (ℕ × ℕ)). Stands P (shown a E) [] q) (sym none) (stands-first P t.domains (shown a E) bounded st.node);
          };
        }),
      )

  pub enter_well : (Part0 Part : Type 0) (t t3 : TableState) (m3 : Value) (o o3 : Option Top) (cs : List (ℕ × ℕ)) (r : Result Unit SpaceFault) → Bounds t → Sound Part0 D m t o cs → Part → is_some o ≡ false → m3 ≡ m → Starts D m t t3 o3 r →
      ((e : SpaceFault) → r ≡ Err e → Sound Part D m3 t3 o3 cs) → Enters (marking D m t o cs) (marking D m3 t3 o3 cs) r × Sound Part D m3 t3 o3 cs
  enter_well Part0 Part t t3 m3 (Some a0) o3 cs r b sd part off same st f = absurd (true≢false off)
  enter_well Part0 Part t t3 m3 None o3 cs (Err e) b sd part off same st f = (declined D m t t3 o3 cs (depth_over t.depth) (marking D m3 t3 o3 cs) e st, f e refl)
  enter_well Part0 Part t t3 m3 None None cs (Ok u) b sd part off same st f = absurd st
  enter_well Part0 Part t t3 m3 None (Some a) cs (Ok u) b sd part off same st f =
      subst (λ (q : Value). Enters (marking D m t None cs) (marking D q t3 (Some a) cs) (Ok tt) × Sound Part D q t3 (Some a) cs) (sym same) (enter_done Part0 Part t t3 None a cs b sd part refl st)

  -- a mark and a decision, in the words of the table before
  pub marked-kept : (t t1 t2 : TableState) (x v : ℕ) (b : Bool) → Marks t t1 (Ok tt) → KeepsOnly t1 x v t2 (Ok b) → t2 ≡ stacked t (kept x v t.domains) (t.domains ∷ t.saved)
  marked-kept t t1 t2 x v b h q = q.2 ∙ ap (λ (s : TableState). with_domains s (kept x v s.domains)) h.1

  -- what filtering assumes after a take
  pub take_begins : (t t1 t2 : TableState) (x v : ℕ) (cs : List (ℕ × ℕ)) (b : Bool) → Running D m t Live cs → Marks t t1 (Ok tt) → KeepsOnly t1 x v t2 (Ok b) →
      (t2.variables ≡ n) × Begins (problem D m t2.width) (Changed x) t2.domains
  take_begins t t1 t2 x v cs b r h q =
      let e = marked-kept t t1 t2 x v b h q in
      (ap (λ (s : TableState). s.variables) e ∙ r.variables, begins_kept D m t t2 t.domains (t.domains ∷ t.saved) x v e (top-stable t cs r))

  pub take_done : (Part0 Part : Type 0) (t t1 t2 t3 : TableState) (o o' : Option Top) (x v : ℕ) (cs cs' : List (ℕ × ℕ)) (b : Bool) →
      Sound Part0 D m t o cs → Part → o ≡ Some Live → Choice t.domains x v → Marks t t1 (Ok tt) → KeepsOnly t1 x v t2 (Ok b) → Lands (problem D m t2.width) t2 t3 o' (Ok tt) → cs' ≡ (x, v) ∷ cs →
      Takes (marking D m t o cs) x v (marking D m t3 o' cs') (Ok tt) × Sound Part D m t3 o' cs'
  take_done Part0 Part t t1 t2 t3 o None x v cs cs' b sd part on ch h q f push = absurd f
  take_done Part0 Part t t1 t2 t3 o (Some a) x v cs cs' b sd part on ch h q f push =
      let P = problem D m t.width in
      let E : Table = t3.domains in
      let r = alive t o cs on sd.runs in
      let c = count-below t cs x v r ch in
      let g = filtered D m t t2 t3 a (kept x v t.domains) (t.domains ∷ t.saved) (marked-kept t t1 t2 x v b h q) f in
      let u : TableState = stacked t E (t.domains ∷ t.saved) in
      let young : younger (t.domains ∷ t.saved) ≡ table t.domains ∷ younger t.saved = younger_cons t.domains t.saved (length cs) r.marked in
      let mk = r.marked in
      let w = sd.few in
      let room = h.0 in
      let d : length cs < min (t.depth - 1) 64 = omega arith in
      let step : marking D m u (Some a) ((x, v) ∷ cs) ≡ piled (marking D m t (Some Live) cs) (shown a E ∷ table t.domains ∷ younger t.saved) ((x, v) ∷ cs) =
      (λ i. record { problem = P; variables = t.variables; base = oldest t.domains t.saved; saved = []; room = t.depth; pile = shown a E ∷ young i; choices = (x, v) ∷ cs; depth = depth_over t.depth }) in
      let stands : Stands P (shown a E) (table t.domains ∷ younger t.saved) ((x, v) ∷ cs) = stands-taken P (shown a E) t.domains (younger t.saved) cs x v r.stands ch g.0 in
      subst (λ (ds : List (ℕ × ℕ)). Takes (marking D m t o cs) x v (marking D m t3 (Some a) ds) (Ok tt) × Sound Part D m t3 (Some a) ds) (sym push) (
        subst (λ (p : Option Top). Takes (marking D m t p cs) x v (marking D m t3 (Some a) ((x, v) ∷ cs)) (Ok tt)) (sym on)
            (took (marking D m t (Some Live) cs) (marking D m t3 (Some a) ((x, v) ∷ cs)) x v t.domains (younger t.saved) refl ch d
            (shown a E, g.0, ap (λ (s : TableState). marking D m s (Some a) ((x, v) ∷ cs)) g.1 ∙ step)),
        subst (λ (s : TableState). Sound Part D m s (Some a) ((x, v) ∷ cs)) (sym g.1) (record {
          part = part;
          lawful = sd.lawful;
          few = sd.few;
          runs = record {
            variables = r.variables;
            marked = ap suc mk;
            within = omega arith;
            stands = subst (λ (p : List Node). Stands P (shown a E) p ((x, v) ∷ cs)) (sym young) stands;
          };
        }),
      )

  -- where a take stands: the node that a restore gives back, and what stands under it
  pub record Forked (t : TableState) (T : Table) (Ts : List Table) (c : ℕ × ℕ) (cs : List (ℕ × ℕ)) : Type 0 where
    pub variables : t.variables ≡ n
    pub young : younger t.saved ≡ table T ∷ younger Ts
    pub chose : Choice T c.0 c.1
    pub long : length Ts ≡ suc (length cs)
    pub within : length cs < t.depth
    pub stands : Stands (problem D m t.width) (table T) (younger Ts) cs

  forked_run : (t : TableState) (a : Top) (T : Table) (Ts : List Table) (c : ℕ × ℕ) (cs : List (ℕ × ℕ)) → Running D m t a (c ∷ cs) → t.saved ≡ T ∷ Ts → Forked t T Ts c cs
  forked_run t a T Ts c cs r s =
      let P = problem D m t.width in
      let long : length Ts ≡ suc (length cs) = let h = ap length s in let g = r.marked in omega arith in
      let p : younger t.saved ≡ table T ∷ younger Ts = ap younger s ∙ younger_cons T Ts (length cs) long in
      let st : Stands P (shown a t.domains) (table T ∷ younger Ts) (c ∷ cs) = subst (λ (q : List Node). Stands P (shown a t.domains) q (c ∷ cs)) p r.stands in
      record { variables = r.variables; young = p; chose = st.1; long = long; within = let w = r.within in omega arith; stands = st.3 }

  pub forked : (t t1 : TableState) (o : Option Top) (cs cs' : List (ℕ × ℕ)) (c : ℕ × ℕ) → Runs D m t o cs → is_some o ≡ true → cs ≡ c ∷ cs' → Restores t t1 (Ok tt) → Forked t t1.domains t1.saved c cs'
  forked t t1 None cs cs' c r on e re = absurd (true≢false (sym on))
  forked t t1 (Some a) cs cs' c r on e re = forked_run t a t1.domains t1.saved c cs' (subst (λ (q : List (ℕ × ℕ)). Running D m t a q) e r) re.0

  pub fork-stable : (t t1 : TableState) (c : ℕ × ℕ) (cs : List (ℕ × ℕ)) → Forked t t1.domains t1.saved c cs → (problem D m t.width).stable t1.domains ≡ true
  fork-stable t t1 c cs fk = (stands_settled (problem D m t.width) (table t1.domains) (younger t1.saved) cs fk.stands).stable

  pub restored-dropped : (t t1 t2 : TableState) (x v : ℕ) (b : Bool) → Restores t t1 (Ok tt) → Drops t1 x v t2 (Ok b) → t2 ≡ stacked t (dropped x v t1.domains) t1.saved
  restored-dropped t t1 t2 x v b h q = q.2 ∙ ap (λ (s : TableState). with_domains s (dropped x v t1.domains)) (restored t t1 h)

  -- what filtering assumes after a turn
  pub turn_begins : (t t1 t2 : TableState) (x v : ℕ) (cs : List (ℕ × ℕ)) (b : Bool) → Forked t t1.domains t1.saved (x, v) cs → Restores t t1 (Ok tt) → Drops t1 x v t2 (Ok b) →
      (t2.variables ≡ n) × Begins (problem D m t2.width) (Changed x) t2.domains
  turn_begins t t1 t2 x v cs b fk re q =
      let e = restored-dropped t t1 t2 x v b re q in
      (ap (λ (s : TableState). s.variables) e ∙ fk.variables, begins_dropped D m t t2 t1.domains t1.saved x v e (fork-stable t t1 (x, v) cs fk))

  pub turn_done : (Part0 Part : Type 0) (t t1 t2 t3 : TableState) (o o' : Option Top) (x v : ℕ) (cs cs' : List (ℕ × ℕ)) (b : Bool) →
      Sound Part0 D m t o cs → Part → is_some o ≡ true → cs ≡ (x, v) ∷ cs' → Restores t t1 (Ok tt) → Drops t1 x v t2 (Ok b) → Lands (problem D m t2.width) t2 t3 o' (Ok tt) →
      Turns (marking D m t o cs) (marking D m t3 o' cs') (Ok tt) × Sound Part D m t3 o' cs'
  turn_done Part0 Part t t1 t2 t3 None o' x v cs cs' b sd part on e re q f = absurd (true≢false (sym on))
  turn_done Part0 Part t t1 t2 t3 (Some a0) None x v cs cs' b sd part on e re q f = absurd f
  turn_done Part0 Part t t1 t2 t3 (Some a0) (Some a) x v cs cs' b sd part on e re q f =
      let P = problem D m t.width in
      let E : Table = t3.domains in
      let T : Table = t1.domains in
      let Ts : List Table = t1.saved in
      let fk = forked t t1 (Some a0) cs cs' (x, v) sd.runs on e re in
      let g = filtered D m t t2 t3 a (dropped x v T) Ts (restored-dropped t t1 t2 x v b re q) f in
      let u : TableState = stacked t E Ts in
      let base : oldest E Ts ≡ oldest t.domains t.saved = oldest_any E T Ts (length cs') fk.long ∙ ap (oldest t.domains) (sym re.0) in
      let step : marking D m u (Some a) cs' ≡ piled (marking D m t (Some a0) cs) (shown a E ∷ younger Ts) cs' =
      (λ i. record { problem = P; variables = t.variables; base = base i; saved = []; room = t.depth; pile = shown a E ∷ younger Ts; choices = cs'; depth = depth_over t.depth }) in (
        turned (marking D m t (Some a0) cs) (marking D m t3 (Some a) cs') (shown a0 t.domains) T (younger Ts) (x, v) cs' (ap (λ (p : List Node). shown a0 t.domains ∷ p) fk.young) e
            (shown a E, g.0, ap (λ (s : TableState). marking D m s (Some a) cs') g.1 ∙ step),
        subst (λ (s : TableState). Sound Part D m s (Some a) cs') (sym g.1) (record {
          part = part;
          lawful = sd.lawful;
          few = sd.few;
          runs = record { variables = fk.variables; marked = fk.long; within = fk.within; stands = stands-dropped P (shown a E) T (younger Ts) cs' x v fk.stands g.0 };
        }),
      )

  pub turn_well : (Part0 Part : Type 0) (t t1 t2 t3 : TableState) (m3 : Value) (o o' : Option Top) (x v : ℕ) (cs cs' : List (ℕ × ℕ)) (b : Bool) (r : Result Unit SpaceFault) →
      Sound Part0 D m t o cs → Part → is_some o ≡ true → cs ≡ (x, v) ∷ cs' → Restores t t1 (Ok tt) → Drops t1 x v t2 (Ok b) → m3 ≡ m → Lands (problem D m t2.width) t2 t3 o' r →
      Turns (marking D m t o cs) (marking D m3 t3 o' cs') r × Sound Part D m3 t3 o' cs'
  turn_well Part0 Part t t1 t2 t3 m3 o o' x v cs cs' b (Err e) sd part on popped re q same f = absurd f
  turn_well Part0 Part t t1 t2 t3 m3 o o' x v cs cs' b (Ok u) sd part on popped re q same f =
      subst (λ (z : Value). Turns (marking D m t o cs) (marking D z t3 o' cs') (Ok tt) × Sound Part D z t3 o' cs') (sym same) (turn_done Part0 Part t t1 t2 t3 o o' x v cs cs' b sd part on popped re q f)
