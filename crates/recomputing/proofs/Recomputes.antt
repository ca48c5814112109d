-- The moves of a recomputing space, over the meanings of its table. Assumes nothing.
use Rattle.std.proofs.Common.{◌≡◌, ℕ, suc, ◌+◌, ◌-◌, ◌<◌, ◌≤◌, Bool, true, false, List, [], ◌∷◌, length, Some, None, Option, Ok, Err, Result, sym, refl, ap, ◌∙◌, subst, true≢false, add-one, arith}
use Rattle.std.specs.Option.{is_some}
use Rattle.tree.specs.Tables.{Table, Choice, kept, dropped}
use Rattle.tree.specs.Filter.{Problem, Lawful, Bounded, Node, table, NodeOf}
use Rattle.tree.specs.Find.{node}
use Rattle.tree.proofs.Tables.{kept-inside, dropped-inside}
use Rattle.tree.proofs.Filter.{bounded-inside, node_unique}
use Rattle.tree.proofs.Exists.{node-is}
use Rattle.model.specs.Values.{Value}
use Rattle.tables.specs.States.{TableState, with_domains, with_saved, Within, Bounds}
use Rattle.tables.specs.Calls.{Marks, KeepsOnly, Restores}
use Rattle.tables.specs.declared.table.TableFault.{TableFault}
use Rattle.kinds.specs.Demands.{Demands}
use Rattle.kinds.specs.Problems.{problem}
use Rattle.filtering.specs.Filters.{Begins}
use Rattle.filtering.specs.declared.filter.Start.TheVariants.{Changed}
use Rattle.spaces.specs.Pile.{piled, Stands}
use Rattle.spaces.specs.Tops.{shown, stacked}
use Rattle.spaces.specs.Bases.{Lands, Started, Starts}
use Rattle.spaces.specs.Calls.{Enters, Takes, Turns}
use Rattle.spaces.specs.declared.base.Top.{Top}
use Rattle.spaces.specs.declared.base.Top.TheVariants.{Live}
use Rattle.spaces.specs.declared.space.SpaceFault.{SpaceFault}
use Rattle.spaces.proofs.Bases.{declined}
use Rattle.spaces.proofs.Stand.{entered, took, turned, stands_settled, takes-fewer}
use Rattle.spaces.proofs.Filterings.{filtered, none_of, restored, begins_kept}
use Rattle.recomputing.specs.Walk.{replayed, after, top, under, taken, Made, Walked, Ranged, last_take, Replays}
use Rattle.recomputing.specs.Recomputed.{first, base_of, pile_of, depth_over, recomputing, Running, Runs, Sound}
use Rattle.recomputing.specs.Laws.{base-bounded, depth-some}
use Rattle.recomputing.specs.Walks as Walks
use Rattle.recomputing.specs.declared.path.Step.{Step}
use Rattle.recomputing.specs.declared.path.Step.TheVariants.{Take, Drop}

module _ (D : Demands) (m : Value) where
  abbrev n : ℕ
  n = length m.windows

  pub run-variables : (t : TableState) (o : Option Top) (ss : List Step) → is_some o ≡ true → Runs D m t o ss → t.variables ≡ n
  run-variables t None ss e r = absurd (true≢false (sym e))
  run-variables t (Some a) ss e r = r.variables

  module _ (Part0 : Type 0) (t : TableState) (takes : ℕ) (ss : List Step) where
    abbrev P : Problem
    P = problem D m t.width

    abbrev B : Table
    B = first t.saved

    -- the nodes are one more than the takes
    pub nodes-counted : (o : Option Top) → is_some o ≡ true → takes ≡ length (taken ss) → length (pile_of o P (base_of o t) ss) ≡ takes + 1
    nodes-counted None e c = absurd (true≢false (sym e))
    nodes-counted (Some a) e c = ap suc (Walks.under-length P B ss ∙ sym c) ∙ sym (add-one takes)

    -- a run begins

    pub enter_done : (Part : Type 0) (t3 : TableState) (a : Top) → Bounds t → Sound Part0 D m t None takes ss → Part → Started D m t t3 a →
        Enters (recomputing D m t None ss) (recomputing D m t3 (Some a) ss) (Ok tt) × Sound Part D m t3 (Some a) takes ss
    enter_done Part t3 a b sd part st =
        let A : Table = t.domains in
        let E : Table = t3.domains in
        let u : TableState = stacked t E (A ∷ []) in
        let none : ss ≡ [] = sd.runs in
        let unsaved : [] ≡ t.saved = sym st.unmarked in
        let bounded : Bounded P A = subst (λ (q : ℕ). Within q t.width A) st.variables b.within in
        let nd : NodeOf P A (node P A) = node-is P sd.lawful A bounded in
        let step : recomputing D m u (Some a) ss ≡ piled (recomputing D m t None ss) (node P A ∷ []) [] =
        (λ i. record { problem = P; variables = t.variables; base = A; saved = unsaved i; room = t.depth; pile = top P A (none i) ∷ under P A (none i); choices = taken (none i); depth = depth_over t.depth }) in (
          entered (recomputing D m t None ss) (recomputing D m t3 (Some a) ss) refl (record { variables = st.variables; unmarked = st.unmarked }) st.room
              (node P A, nd, ap (λ (q : TableState). recomputing D m q (Some a) ss) st.others ∙ step),
          subst (λ (q : TableState). Sound Part D m q (Some a) takes ss) (sym st.others) (record {
            part = part;
            lawful = sd.lawful;
            few = sd.few;
            counted = sd.counted;
            most = sd.most;
            runs = record {
              variables = st.variables;
              room = st.room;
              marked = refl;
              walked = subst (Walked P A) (sym none) tt;
              top_is = ap (top P A) none ∙ node_unique P A (node P A) (shown a E) nd st.node;
            };
          }),
        )

    pub enter_well : (Part : Type 0) (t3 : TableState) (m3 : Value) (o o3 : Option Top) (r : Result Unit SpaceFault) → Bounds t → Sound Part0 D m t o takes ss → Part → is_some o ≡ false → m3 ≡ m → Starts D m t t3 o3 r →
        ((e : SpaceFault) → r ≡ Err e → Sound Part D m3 t3 o3 takes ss) → Enters (recomputing D m t o ss) (recomputing D m3 t3 o3 ss) r × Sound Part D m3 t3 o3 takes ss
    enter_well Part t3 m3 (Some a0) o3 r b sd part off same st f = absurd (true≢false off)
    enter_well Part t3 m3 None o3 (Err e) b sd part off same st f = (declined D m t t3 o3 (taken ss) (depth_over t.depth) (recomputing D m3 t3 o3 ss) e st, f e refl)
    enter_well Part t3 m3 None None (Ok u) b sd part off same st f = absurd st
    enter_well Part t3 m3 None (Some a) (Ok u) b sd part off same st f =
        subst (λ (q : Value). Enters (recomputing D m t None ss) (recomputing D q t3 (Some a) ss) (Ok tt) × Sound Part D q t3 (Some a) takes ss) (sym same) (enter_done Part t3 a b sd part st)

    -- what holds where a choice can be made
    pub record Choosing : Type 0 where
      pub running_is : Running D m t Live ss
      pub bounded : Bounded P B
      pub stands : Stands P (table t.domains) (under P B ss) (taken ss)

    pub choosing : (o : Option Top) → Bounds t → Sound Part0 D m t o takes ss → o ≡ Some Live → Choosing
    choosing o b sd on =
        let r : Running D m t Live ss = subst (λ (q : Option Top). Runs D m t q ss) on sd.runs in
        let bd = base-bounded D m t Live ss b r in
        record { running_is = r; bounded = bd; stands = subst (λ (N : Node). Stands P N (under P B ss) (taken ss)) r.top_is (Walks.walked-stands P sd.lawful B bd ss r.walked) }

    -- fewer takes stand than there are variables, and the path has room for a step more
    pub takes-below : (o : Option Top) (x v : ℕ) → Bounds t → Sound Part0 D m t o takes ss → o ≡ Some Live → Choice t.domains x v → takes < 64
    takes-below o x v b sd on ch =
        let l : length (taken ss) < n = takes-fewer P t.domains (under P B ss) (taken ss) x v (choosing o b sd on).stands ch in
        let c = sd.counted in
        let f = sd.few in
        omega arith

    pub path_below : (o : Option Top) (x v : ℕ) → Bounds t → Sound Part0 D m t o takes ss → o ≡ Some Live → Choice t.domains x v → length ss < 4096
    path_below o x v b sd on ch =
        let c = choosing o b sd on in
        Walks.path_room P sd.lawful B c.bounded ss t.domains x v sd.few b.narrow c.running_is.walked c.running_is.top_is ch.has

    -- what filtering assumes after a take
    pub take_begins : (o : Option Top) (t2 : TableState) (x v : ℕ) (y : Bool) → Bounds t → Sound Part0 D m t o takes ss → o ≡ Some Live → KeepsOnly t x v t2 (Ok y) →
        (t2.variables ≡ n) × Begins (problem D m t2.width) (Changed x) t2.domains
    take_begins o t2 x v y b sd on q =
        let c = choosing o b sd on in
        let stable = (stands_settled P (table t.domains) (under P B ss) (taken ss) c.stands).stable in
        (ap (λ (s : TableState). s.variables) q.2 ∙ c.running_is.variables, begins_kept D m t t2 t.domains t.saved x v q.2 stable)

    -- another step on a path, and what it leads to
    on_step : (Part : Type 0) (a0 a : Top) (ss2 : List Step) (takes2 : ℕ) (s : Step) (rs : List Step) (t3 : TableState) → Lawful P → length m.windows ≤ 64 → Bounded P B → Part → Running D m t a0 ss →
        t3 ≡ with_domains t t3.domains → ss2 ≡ s ∷ rs → Walked P B (s ∷ rs) → NodeOf P (replayed B (s ∷ rs)) (shown a t3.domains) →
        takes2 ≡ length (taken (s ∷ rs)) → takes2 ≤ 64 → Sound Part D m t3 (Some a) takes2 ss2
    on_step Part a0 a ss2 takes2 s rs t3 laws few b part r e3 pp w nd c f =
        subst (λ (q : TableState). Sound Part D m q (Some a) takes2 ss2) (sym e3) (record {
          part = part;
          lawful = laws;
          few = few;
          counted = c ∙ ap (λ (q : List Step). length (taken q)) (sym pp);
          most = f;
          runs = record {
            variables = r.variables;
            room = r.room;
            marked = r.marked;
            walked = subst (Walked P B) (sym pp) w;
            top_is = ap (top P B) pp ∙ Walks.top_unique P laws B b (s ∷ rs) (shown a t3.domains) w nd;
          };
        })

    pub take_done : (Part : Type 0) (o o3 : Option Top) (t2 t3 : TableState) (ss2 : List Step) (x v : ℕ) (y : Bool) → Bounds t → Sound Part0 D m t o takes ss → Part → o ≡ Some Live → Choice t.domains x v →
        KeepsOnly t x v t2 (Ok y) → Lands (problem D m t2.width) t2 t3 o3 (Ok tt) → ss2 ≡ Take x v ∷ ss →
        Takes (recomputing D m t o ss) x v (recomputing D m t3 o3 ss2) (Ok tt) × Sound Part D m t3 o3 (takes + 1) ss2
    take_done Part o None t2 t3 ss2 x v y b sd part on ch q f pp = absurd f
    take_done Part o (Some a) t2 t3 ss2 x v y b sd part on ch q f pp =
        let laws = sd.lawful in
        let A : Table = t.domains in
        let c = choosing o b sd on in
        let tk = takes-below o x v b sd on ch in
        let g = filtered D m t t2 t3 a (kept x v A) t.saved q.2 f in
        let tp : top P B ss ≡ table A = c.running_is.top_is in
        let bk : Bounded P (kept x v A) = bounded-inside P (kept x v A) A (kept-inside x v A) (Walks.top-bounded P laws B c.bounded ss A c.running_is.walked tp) in
        let wk : Walked P B (Take x v ∷ ss) = (subst (λ (N : Node). Made N (Take x v)) (sym tp) ch, c.running_is.walked) in
        let nk : NodeOf P (kept x v A) (node P (kept x v A)) = node-is P laws (kept x v A) bk in
        let same : node P (kept x v A) ≡ shown a t3.domains = node_unique P (kept x v A) (node P (kept x v A)) (shown a t3.domains) nk g.0 in
        let nd : NodeOf P (replayed B (Take x v ∷ ss)) (shown a t3.domains) = subst (NodeOf P (replayed B (Take x v ∷ ss))) (ap (after P (Take x v)) tp ∙ same) (Walks.top_of P laws B c.bounded (Take x v ∷ ss) wk) in
        let room : length (taken ss) < depth_over t.depth = let d = depth-some t.depth c.running_is.room in let e = sd.counted in omega arith in
        let one : recomputing D m (with_domains t t3.domains) (Some a) ss2 ≡ piled (recomputing D m t (Some Live) ss) (after P (Take x v) (top P B ss) ∷ top P B ss ∷ under P B ss) ((x, v) ∷ taken ss) =
        (λ i. record { problem = P; variables = t.variables; base = B; saved = []; room = t.depth; pile = top P B (pp i) ∷ under P B (pp i); choices = taken (pp i); depth = depth_over t.depth }) in
        let two : piled (recomputing D m t (Some Live) ss) (after P (Take x v) (top P B ss) ∷ top P B ss ∷ under P B ss) ((x, v) ∷ taken ss) ≡ piled (recomputing D m t (Some Live) ss) (node P (kept x v A) ∷ table A ∷ under P B ss) ((x, v) ∷ taken ss) =
        (λ i. piled (recomputing D m t (Some Live) ss) (after P (Take x v) (tp i) ∷ tp i ∷ under P B ss) ((x, v) ∷ taken ss)) in (
          subst (λ (p : Option Top). Takes (recomputing D m t p ss) x v (recomputing D m t3 (Some a) ss2) (Ok tt)) (sym on)
              (took (recomputing D m t (Some Live) ss) (recomputing D m t3 (Some a) ss2) x v A (under P B ss) (ap (λ (N : Node). N ∷ under P B ss) tp) ch room
              (node P (kept x v A), nk, ap (λ (z : TableState). recomputing D m z (Some a) ss2) g.1 ∙ one ∙ two)),
          on_step Part Live a ss2 (takes + 1) (Take x v) ss t3 laws sd.few c.bounded part c.running_is g.1 pp wk nd (add-one takes ∙ ap suc sd.counted) (omega arith),
        )

    -- the node where the newest take was made
    pub record Forked (a : Top) (rs : List Step) (x v : ℕ) : Type 0 where
      pub running_is : Running D m t a ss
      pub bounded : Bounded P B
      pub at : Table
      pub at_is : top P B rs ≡ table at
      pub below : under P B ss ≡ table at ∷ under P B rs
      pub choices : taken ss ≡ (x, v) ∷ taken rs
      pub walked : Walked P B (Drop x v ∷ rs)

    forked : (a : Top) (rs : List Step) (x v : ℕ) → Bounds t → Running D m t a ss → last_take ss ≡ Some (rs, (x, v)) → Forked a rs x v
    forked a rs x v b r e =
        let c = Walks.cut P B ss rs x v r.walked e in
        let h = Walks.made_table (top P B rs) (Take x v) c.made in
        record {
          running_is = r;
          bounded = base-bounded D m t a ss b r;
          at = h.0;
          at_is = h.1;
          below = c.under_is ∙ ap (λ (N : Node). N ∷ under P B rs) h.1;
          choices = c.taken_is;
          walked = (subst (λ (N : Node). Made N (Drop x v)) (sym h.1) h.2, c.walked);
        }

    -- restored and marked again, the table is the base
    pub rebased : (o : Option Top) (t1 t2 : TableState) → Runs D m t o ss → is_some o ≡ true → Restores t t1 (Ok tt) → Marks t1 t2 (Ok tt) → t2 ≡ with_domains t B
    rebased None t1 t2 sd on r h = absurd (true≢false (sym on))
    rebased (Some a) t1 t2 sd on r h =
        let e : t1.domains ∷ t1.saved ≡ B ∷ [] = sym r.0 ∙ sd.marked in
        let d : t1.domains ≡ B = ap first e in
        let z : t1.saved ≡ [] = none_of t1.saved (let l = ap length e in omega arith) in
        let s : t1 ≡ stacked t B [] = restored t t1 r ∙ (λ i. stacked t (d i) (z i)) in
        h.1 ∙ ap (λ (q : TableState). with_saved q (q.domains ∷ q.saved)) s ∙ ap (stacked t B) (sym sd.marked)

    -- a replay is never refused
    pub replays : (o : Option Top) (t2 u : TableState) (rs ss2 : List Step) (x v : ℕ) (f : TableFault) → Bounds t → Sound Part0 D m t o takes ss → is_some o ≡ true → last_take ss ≡ Some (rs, (x, v)) → t2 ≡ with_domains t B →
        ss2 ≡ Drop x v ∷ rs → Replays t2 ss2 u (Err f) → ⊥
    replays None t2 u rs ss2 x v f b sd on lt e pp h = absurd (true≢false (sym on))
    replays (Some a) t2 u rs ss2 x v f b sd on lt e pp h =
        let fk = forked a rs x v b sd.runs lt in
        let rg : Ranged n t.width (Drop x v ∷ rs) = Walks.walked_ranged P sd.lawful B fk.bounded (Drop x v ∷ rs) fk.walked in
        h (subst (Ranged t2.variables t2.width) (sym pp)
        (subst (λ (q : TableState). Ranged q.variables q.width (Drop x v ∷ rs)) (sym e) (subst (λ (q : ℕ). Ranged q t.width (Drop x v ∷ rs)) (sym sd.runs.variables) rg)))

    pub turn_done : (Part : Type 0) (o o4 : Option Top) (t2 t3 t4 : TableState) (rs ss2 : List Step) (x v : ℕ) → Bounds t → Sound Part0 D m t o takes ss → Part → is_some o ≡ true → last_take ss ≡ Some (rs, (x, v)) →
        t2 ≡ with_domains t B → ss2 ≡ Drop x v ∷ rs → Replays t2 ss2 t3 (Ok tt) → Lands (problem D m t3.width) t3 t4 o4 (Ok tt) →
        Turns (recomputing D m t o ss) (recomputing D m t4 o4 ss2) (Ok tt) × Sound Part D m t4 o4 (takes - 1) ss2
    turn_done Part None o4 t2 t3 t4 rs ss2 x v b sd part on lt e pp h f = absurd (true≢false (sym on))
    turn_done Part (Some a0) None t2 t3 t4 rs ss2 x v b sd part on lt e pp h f = absurd f
    turn_done Part (Some a0) (Some a) t2 t3 t4 rs ss2 x v b sd part on lt e pp h f =
        let laws = sd.lawful in
        let fk = forked a0 rs x v b sd.runs lt in
        let bd : Bounded P B = fk.bounded in
        let A : Table = fk.at in
        let e3 : t3 ≡ stacked t (replayed B (Drop x v ∷ rs)) t.saved =
        h ∙ ap (λ (q : TableState). with_domains q (replayed q.domains ss2)) e ∙ ap (λ (q : List Step). with_domains t (replayed B q)) pp in
        let g = filtered D m t t3 t4 a (replayed B (Drop x v ∷ rs)) t.saved e3 f in
        let ba : Bounded P A = Walks.top-bounded P laws B bd rs A fk.walked.1 fk.at_is in
        let nd : NodeOf P (dropped x v A) (node P (dropped x v A)) = node-is P laws (dropped x v A) (bounded-inside P (dropped x v A) A (dropped-inside x v A) ba) in
        let one : recomputing D m (with_domains t t4.domains) (Some a) ss2 ≡ piled (recomputing D m t (Some a0) ss) (after P (Drop x v) (top P B rs) ∷ under P B rs) (taken rs) =
        (λ i. record { problem = P; variables = t.variables; base = B; saved = []; room = t.depth; pile = top P B (pp i) ∷ under P B (pp i); choices = taken (pp i); depth = depth_over t.depth }) in
        let two : piled (recomputing D m t (Some a0) ss) (after P (Drop x v) (top P B rs) ∷ under P B rs) (taken rs) ≡ piled (recomputing D m t (Some a0) ss) (node P (dropped x v A) ∷ under P B rs) (taken rs) =
        ap (λ (N : Node). piled (recomputing D m t (Some a0) ss) (after P (Drop x v) N ∷ under P B rs) (taken rs)) fk.at_is in (
          turned (recomputing D m t (Some a0) ss) (recomputing D m t4 (Some a) ss2) (top P B ss) A (under P B rs) (x, v) (taken rs) (ap (λ (q : List Node). top P B ss ∷ q) fk.below) fk.choices
              (node P (dropped x v A), nd, ap (λ (q : TableState). recomputing D m q (Some a) ss2) g.1 ∙ one ∙ two),
          on_step Part a0 a ss2 (takes - 1) (Drop x v) rs t4 laws sd.few bd part sd.runs g.1 pp fk.walked g.0
              (let c = sd.counted in let q = ap length fk.choices in omega arith) (let y = sd.most in omega arith),
        )
