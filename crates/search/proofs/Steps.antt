-- One visit more: what a space tells of its top, and where a take or a turn leads.
use Rattle.std.proofs.Common.{◌≡◌, ℕ, suc, ◌<◌, ◌≤◌, Bool, true, false, cond, leb, List, [], ◌∷◌, ◌++◌, length, Some, None, Ok, Err, Option, sym, refl, ap, ◌∙◌, subst, subst₂, ⊎_elim, arith}
use Rattle.std.proofs.lemmas.List.{append_assoc}
use Rattle.std.proofs.lemmas.Bool.{lt-leb}
use Rattle.tree.specs.Tables.{Table, Choice, kept, dropped}
use Rattle.tree.specs.Filter.{Problem, Lawful, Node, failed, table, NodeOf}
use Rattle.tree.specs.Search.{Rule, Picks, Tree, dead, plan, fork, Visit, nodes}
use Rattle.tree.specs.Find.{tree, visit, under, found, parts}
use Rattle.tree.proofs.Filter.{filtered_bounded, kept-bounded, dropped-bounded}
use Rattle.tree.proofs.Trees.{picked, unpicked}
use Rattle.spaces.specs.Pile.{SpaceState, piled, Stands, Standing}
use Rattle.spaces.specs.Calls.{has_open, state, takes, turns}
use Rattle.spaces.specs.declared.space.SpaceFault.{SpaceFault}
use Rattle.spaces.specs.declared.space.State.{State}
use Rattle.spaces.specs.declared.space.State.TheVariants.{Open as Now-open, Plan as Now-plan, Failed as Now-failed}
use Rattle.spaces.proofs.Opens.{has_open_to, has_open_none}
use Rattle.spaces.proofs.Stand.{takes-fewer}
use Rattle.search.specs.Choosing.{at_top, ruling}
use Rattle.search.specs.Remaining.{rights, later, remaining, Made, Sitting}
use Rattle.search.specs.Sessions.{has_session, has_unvisited, state_of, view, rest, Sound, Visits, Steps, none_left}
use Rattle.search.specs.declared.search.Search.{Search}
use Rattle.search.specs.declared.search.Session.TheVariants.{Visited}
use Rattle.search.proofs.Moves.{took, turned}

never : (c : ℕ × ℕ) → ◌≡◌ {A = Option (ℕ × ℕ)} None (Some c) → ⊥
never c e = let z : ◌≡◌ {A = ℕ} 0 1 = cc in omega arith

module _ (P : Problem) (R : Rule) (laws : Lawful P) (picks : Picks P R) where
  -- a space tells of its top what a visit finds there
  pub state-is : (N : Node) (p : List Node) → Made P R N → state P.variables P.width (N ∷ p) ≡ state_of (visit P R N)
  state-is failed p m = refl
  state-is (table T) p (D, b, f) = go (R T) refl (has_open P.variables P.width T) refl
    where
      go : (o : Option (ℕ × ℕ)) → R T ≡ o → (q : Bool) → has_open P.variables P.width T ≡ q → cond q Now-open Now-plan ≡ state_of (found P T o)
      go (Some c) r true k = refl
      go (Some c) r false k = absurd (has_open_none P.variables P.width T (filtered_bounded P D T f b) k c.0 (picked P R picks D T c f b r).is_open)
      go None r true k = let q = has_open_to P.variables P.width T k in absurd (unpicked P R picks D T f b r q.0 q.1)
      go None r false k = refl

  -- nothing is under a node that is not open
  pub nothing-under : (N : Node) → (state_of (visit P R N) ≡ Now-open → ⊥) → under P R N ≡ []
  nothing-under failed h = refl
  nothing-under (table T) h = go (R T) h
    where
      go : (o : Option (ℕ × ℕ)) → (state_of (found P T o) ≡ Now-open → ⊥) → parts P R T o ≡ []
      go None k = refl
      go (Some c) k = absurd (k refl)

  pub nothing-later : (p : List Node) (cs : List (ℕ × ℕ)) → Sitting P R true p cs → length p ≤ 1 → ((N : Node) (q : List Node) → p ≡ N ∷ q → state_of (visit P R N) ≡ Now-open → ⊥) → later P R p cs ≡ []
  nothing-later [] cs s l h = absurd s
  nothing-later (N ∷ []) [] s l h = ap (λ (vs : List Visit). vs ++ []) (nothing-under N (h N [] refl))
  nothing-later (N ∷ []) (c ∷ cs) s l h = absurd s.1
  nothing-later (N ∷ M ∷ p) cs s l h = absurd (omega arith)

  -- where a take stands something is left
  pub record Moved (s : SpaceState) (p : List Node) (cs : List (ℕ × ℕ)) (t : SpaceState) : Type 0 where
    pub node : Node
    pub below : List Node
    pub pile : t.pile ≡ node ∷ below
    pub first : later P R p cs ≡ visit P R node ∷ later P R t.pile t.choices
    pub space : t ≡ piled s t.pile t.choices
    pub sits : Sitting P R true t.pile t.choices

  moved : (s t : SpaceState) (p : List Node) (cs : List (ℕ × ℕ)) (N : Node) (q : List Node) (ds : List (ℕ × ℕ)) → t ≡ piled s (N ∷ q) ds → later P R p cs ≡ visit P R N ∷ later P R (N ∷ q) ds → Sitting P R true (N ∷ q) ds → Moved s p cs t
  moved s t p cs N q ds is first sits = subst (Moved s p cs) (sym is) (record { node = N; below = q; pile = refl; first = first; space = refl; sits = sits })

  module _ (s t : SpaceState) (same : s.problem ≡ P) where
    pub take_moved : (p : List Node) (x v : ℕ) (u : Unit {0}) → Sitting P R true p s.choices → at_top R s.base p ≡ Some (x, v) → takes s x v p t (Ok u) → Moved s p s.choices t
    take_moved [] x v u sits e h = absurd sits
    take_moved (failed ∷ q) x v u sits e h = absurd h
    take_moved (table T ∷ q) x v u ((D, bd, f), forked) e (choice, room, (N, h, is)) =
        let k = kept-bounded P x v D T f bd in
        let n : NodeOf P (kept x v T) N = subst (λ (Q : Problem). NodeOf Q (kept x v T) N) same h in
        moved s t (table T ∷ q) s.choices N (table T ∷ q) ((x, v) ∷ s.choices) is (took P R laws picks T N q s.choices (x, v) k e n) ((kept x v T, k, n), ((D, bd, f), e, forked))

    pub turn_moved : (p : List Node) (cs : List (ℕ × ℕ)) (u : Unit {0}) → Sitting P R true p cs → ((N : Node) (q : List Node) → p ≡ N ∷ q → state_of (visit P R N) ≡ Now-open → ⊥) → turns s p cs t (Ok u) → Moved s p cs t
    turn_moved [] cs u sits o h = absurd sits
    turn_moved (N ∷ []) [] u sits o h = absurd h
    turn_moved (N ∷ failed ∷ p) [] u sits o h = absurd h
    turn_moved (N ∷ table T ∷ p) [] u sits o h = absurd h
    turn_moved (N ∷ []) (c ∷ cs) u sits o h = absurd h
    turn_moved (N ∷ failed ∷ p) (c ∷ cs) u sits o h = absurd h
    turn_moved (M ∷ table T ∷ p) (c ∷ cs) u (made, ((D, bd, f), e, forked)) o (N, h, is) =
        let k = dropped-bounded P c.0 c.1 D T f bd in
        let n : NodeOf P (dropped c.0 c.1 T) N = subst (λ (Q : Problem). NodeOf Q (dropped c.0 c.1 T) N) same h in
        moved s t (M ∷ table T ∷ p) (c ∷ cs) N p cs is (turned P R laws picks M N T p c cs (nothing-under M (o M (table T ∷ p) refl)) k n) ((dropped c.0 c.1 T, k, n), forked)

    -- neither is refused in a session

    pub take_goes : (p : List Node) (x v : ℕ) (f : SpaceFault) → Sitting P R true p s.choices → at_top R s.base p ≡ Some (x, v) → Standing s p → P.variables ≤ s.depth → takes s x v p t (Err f) → ⊥
    take_goes [] x v f sits e o d h = sits
    take_goes (failed ∷ q) x v f sits e o d h = never (x, v) e
    take_goes (table T ∷ q) x v f ((D, bd, k), forked) e o d h =
        let c = picked P R picks D T (x, v) k bd e in
        let few = takes-fewer P T q s.choices x v (subst (λ (Q : Problem). Stands Q (table T) q s.choices) same o.1) c in
        ⊎_elim (λ (i : (Choice T x v → ⊥) × _). i.0 c) (λ i. omega (arith, i.1, few, d)) h

    pub turn_goes : (p : List Node) (cs : List (ℕ × ℕ)) (f : SpaceFault) → Sitting P R true p cs → 1 < length p → turns s p cs t (Err f) → ⊥
    turn_goes [] cs f sits l h = sits
    turn_goes (N ∷ []) [] f sits l h = omega arith
    turn_goes (N ∷ []) (c ∷ cs) f sits l h = omega arith
    turn_goes (N ∷ failed ∷ p) [] f sits l h = sits.1
    turn_goes (N ∷ table T ∷ p) [] f sits l h = sits.1
    turn_goes (N ∷ failed ∷ p) (c ∷ cs) f sits l h = sits.1
    turn_goes (N ∷ table T ∷ p) (c ∷ cs) f sits l h = h

-- as the search sees it

module _ {S Q : Type 0} (means : S → SpaceState) (sound : S → Type 0) (rules : Q → ℕ → ℕ → Rule) (a : Search S Q) (open_session : has_session a.session ≡ true) (o : Sound means sound rules a) where
  pub way : Sitting (means a.space).problem (ruling (means a.space) (rules a.rule)) true (means a.space).pile (means a.space).choices
  way = subst (λ (b : Bool). Sitting (means a.space).problem (ruling (means a.space) (rules a.rule)) b (means a.space).pile (means a.space).choices) open_session o.sits.way

  module _ (laws : Lawful (means a.space).problem) (picks : Picks (means a.space).problem (ruling (means a.space) (rules a.rule))) where
    -- the top, by its state
    pub top-state : (st : State) → st ≡ state (means a.space).problem.variables (means a.space).problem.width (means a.space).pile → (N : Node) (q : List Node) → (means a.space).pile ≡ N ∷ q → st ≡ state_of (visit (means a.space).problem (ruling (means a.space) (rules a.rule)) N)
    top-state st h N q e =
        let s = means a.space in
        let R = ruling s (rules a.rule) in
        h ∙ ap (state s.problem.variables s.problem.width) e ∙ state-is s.problem R laws picks N q (subst (λ (p : List Node). Sitting s.problem R true p s.choices) e way).0

    -- the first visit is of the top
    pub first_step : (st : State) → has_unvisited a.session ≡ true → st ≡ state (means a.space).problem.variables (means a.space).problem.width (means a.space).pile →
        Steps (view means rules a) (Ok (Some st)) (view means rules (record { space = a.space; rule = a.rule; session = Visited })) × Sound means sound rules (record { space = a.space; rule = a.rule; session = Visited })
    first_step st f h = go (means a.space).pile refl
      where
        go : (p : List Node) → (means a.space).pile ≡ p → Steps (view means rules a) (Ok (Some st)) (view means rules (record { space = a.space; rule = a.rule; session = Visited })) × Sound means sound rules (record { space = a.space; rule = a.rule; session = Visited })
        go [] e = absurd (subst (λ (p : List Node). Sitting (means a.space).problem (ruling (means a.space) (rules a.rule)) true p (means a.space).choices) e way)
        go (N ∷ q) e =
            let s = means a.space in
            let R = ruling s (rules a.rule) in
            let V : Bool → List Node → Type 0 = λ b p. Visits s.problem R (remaining s.problem R b p s.choices) (Some st) (remaining s.problem R false p s.choices) p in (
              record {
                visits = subst (λ (b : Bool). V b s.pile) (sym f) (subst (V true) (sym e) (top-state st h N q e, refl, (N, q, refl, refl)));
                session = refl;
                space = refl;
                rule = refl;
              },
              record { part = o.part; sits = record { way = way; deep = λ k. o.sits.deep open_session; ready = λ k. o.sits.ready open_session } },
            )

    -- a later one is of the node that a take or a turn leads to
    pub later-step : (q : S) (b : Search S Q) (st : State) → b ≡ record { space = q; rule = a.rule; session = a.session } → has_unvisited a.session ≡ false → sound q → Moved (means a.space).problem (ruling (means a.space) (rules a.rule)) laws picks (means a.space) (means a.space).pile (means a.space).choices (means q) → (sound b.space → st ≡ state (means b.space).problem.variables (means b.space).problem.width (means b.space).pile) →
        Steps (view means rules a) (Ok (Some st)) (view means rules b) × Sound means sound rules b
    later-step q b st is f oq m shown =
        let s = means a.space in
        let R = ruling s (rules a.rule) in
        let c : Search S Q = record { space = q; rule = a.rule; session = a.session } in
        let same : ruling (means q) (rules a.rule) ≡ R = ap (λ (x : SpaceState). ruling x (rules a.rule)) m.space in
        let prob : (means q).problem ≡ s.problem = ap (λ (x : SpaceState). x.problem) m.space in
        let h : st ≡ state (means q).problem.variables (means q).problem.width (means q).pile = subst (λ (x : Search S Q). sound x.space → st ≡ state (means x.space).problem.variables (means x.space).problem.width (means x.space).pile) is shown oq in
        let made = (subst (λ (p : List Node). Sitting s.problem R true p (means q).choices) m.pile m.sits).0 in
        let st-is : st ≡ state_of (visit s.problem R m.node) = h ∙ ap (λ (P : Problem). state P.variables P.width (means q).pile) prob ∙ ap (state s.problem.variables s.problem.width) m.pile ∙ state-is s.problem R laws picks m.node m.below made in
        let left : rest (view means rules c) ≡ later s.problem R (means q).pile (means q).choices = ap (λ (b : Bool). remaining (means q).problem (ruling (means q) (rules a.rule)) b (means q).pile (means q).choices) f ∙ ap (λ (x : SpaceState). later x.problem (ruling x (rules a.rule)) (means q).pile (means q).choices) m.space in
        let here : rest (view means rules a) ≡ visit s.problem R m.node ∷ later s.problem R (means q).pile (means q).choices = ap (λ (b : Bool). remaining s.problem R b s.pile s.choices) f ∙ m.first in
        let V : List Visit → Type 0 = λ vs. Visits s.problem R vs (Some st) (rest (view means rules c)) (means q).pile in
        subst (λ (x : Search S Q). Steps (view means rules a) (Ok (Some st)) (view means rules x) × Sound means sound rules x) (sym is) (
          record {
            visits = subst V (sym here) (st-is, left, (m.node, m.below, m.pile, refl));
            session = open_session;
            space = m.space;
            rule = same;
          },
          record {
            part = oq;
            sits = record {
              way = subst (λ (x : Bool). Sitting (means q).problem (ruling (means q) (rules a.rule)) x (means q).pile (means q).choices) (sym open_session) (subst (λ (x : SpaceState). Sitting x.problem (ruling x (rules a.rule)) true (means q).pile (means q).choices) (sym m.space) m.sits);
              deep = λ k. subst (λ (x : SpaceState). x.problem.variables ≤ x.depth) (sym m.space) (o.sits.deep open_session);
              ready = λ k. subst (λ (x : SpaceState). x.variables ≡ x.problem.variables) (sym m.space) (o.sits.ready open_session);
            };
          },
        )

    -- none is left
    pub no_step : (st : State) → has_unvisited a.session ≡ false → st ≡ state (means a.space).problem.variables (means a.space).problem.width (means a.space).pile → (st ≡ Now-open → ⊥) → length (means a.space).pile ≤ 1 → rest (view means rules a) ≡ []
    no_step st f h closed l =
        let s = means a.space in
        let R = ruling s (rules a.rule) in
        ap (λ (b : Bool). remaining s.problem R b s.pile s.choices) f ∙ nothing-later s.problem R laws picks s.pile s.choices way l (λ N q e k. closed (top-state st h N q e ∙ k))

    -- at an open top the rule answers
    pub rule-answers : Now-open ≡ state (means a.space).problem.variables (means a.space).problem.width (means a.space).pile → at_top (ruling (means a.space) (rules a.rule)) (means a.space).base (means a.space).pile ≡ None → ⊥
    rule-answers h e = go (means a.space).pile refl e
      where
        go : (p : List Node) → (means a.space).pile ≡ p → at_top (ruling (means a.space) (rules a.rule)) (means a.space).base p ≡ None → ⊥
        go [] i n = subst (λ (p : List Node). Sitting (means a.space).problem (ruling (means a.space) (rules a.rule)) true p (means a.space).choices) i way
        go (failed ∷ q) i n = let k : Now-open ≡ Now-failed = top-state Now-open h failed q i in let z : ◌≡◌ {A = ℕ} 0 1 = cc in omega arith
        go (table T ∷ q) i n =
            let k : Now-open ≡ Now-plan = top-state Now-open h (table T) q i ∙ ap (λ (o : Option (ℕ × ℕ)). state_of (found (means a.space).problem T o)) n in
            let z : ◌≡◌ {A = ℕ} 0 1 = cc in omega arith

    -- where the rule has no answer the top is not open
    pub unanswered : at_top (ruling (means a.space) (rules a.rule)) (means a.space).base (means a.space).pile ≡ None → (N : Node) (q : List Node) → (means a.space).pile ≡ N ∷ q → state_of (visit (means a.space).problem (ruling (means a.space) (rules a.rule)) N) ≡ Now-open → ⊥
    unanswered n N q e k =
        let s = means a.space in
        rule-answers (sym (top-state (state s.problem.variables s.problem.width s.pile) refl N q e ∙ k)) n

    -- whether something is left

    some-nodes : (t : Tree) (vs : List Visit) → none_left (nodes t ++ vs) ≡ false
    some-nodes dead vs = refl
    some-nodes (plan p) vs = refl
    some-nodes (fork T x v l r) vs = refl

    pub open_left : has_unvisited a.session ≡ false → Now-open ≡ state (means a.space).problem.variables (means a.space).problem.width (means a.space).pile → none_left (rest (view means rules a)) ≡ false
    open_left f h = ap (λ (b : Bool). none_left (remaining (means a.space).problem (ruling (means a.space) (rules a.rule)) b (means a.space).pile (means a.space).choices)) f ∙ go (means a.space).pile refl
      where
        fork_left : (T : Table) (q : List Node) (o : Option (ℕ × ℕ)) → Now-open ≡ state_of (found (means a.space).problem T o) → none_left (parts (means a.space).problem (ruling (means a.space) (rules a.rule)) T o ++ rights (means a.space).problem (ruling (means a.space) (rules a.rule)) q (means a.space).choices) ≡ false
        fork_left T q None k = absurd (let z : ◌≡◌ {A = ℕ} 0 1 = cc in omega arith)
        fork_left T q (Some c) k =
            let s = means a.space in
            let R = ruling s (rules a.rule) in
            ap none_left (append_assoc (nodes (tree s.problem R (kept c.0 c.1 T))) (nodes (tree s.problem R (dropped c.0 c.1 T))) (rights s.problem R q s.choices)) ∙ some-nodes (tree s.problem R (kept c.0 c.1 T)) _

        go : (p : List Node) → (means a.space).pile ≡ p → none_left (later (means a.space).problem (ruling (means a.space) (rules a.rule)) p (means a.space).choices) ≡ false
        go [] i = absurd (subst (λ (p : List Node). Sitting (means a.space).problem (ruling (means a.space) (rules a.rule)) true p (means a.space).choices) i way)
        go (failed ∷ q) i = let k : Now-open ≡ Now-failed = top-state Now-open h failed q i in absurd (let z : ◌≡◌ {A = ℕ} 0 1 = cc in omega arith)
        go (table T ∷ q) i = fork_left T q (ruling (means a.space) (rules a.rule) T) (top-state Now-open h (table T) q i)

    pub closed_left : (st : State) → has_unvisited a.session ≡ false → st ≡ state (means a.space).problem.variables (means a.space).problem.width (means a.space).pile → (st ≡ Now-open → ⊥) → leb (length (means a.space).pile) 1 ≡ none_left (rest (view means rules a))
    closed_left st f h closed = go (means a.space).pile (means a.space).choices refl refl ∙ sym (ap (λ (b : Bool). none_left (remaining (means a.space).problem (ruling (means a.space) (rules a.rule)) b (means a.space).pile (means a.space).choices)) f)
      where
        sitting : (p : List Node) (cs : List (ℕ × ℕ)) → (means a.space).pile ≡ p → (means a.space).choices ≡ cs → Sitting (means a.space).problem (ruling (means a.space) (rules a.rule)) true p cs
        sitting p cs i j = subst₂ (λ (q : List Node) (ds : List (ℕ × ℕ)). Sitting (means a.space).problem (ruling (means a.space) (rules a.rule)) true q ds) i j way

        go : (p : List Node) (cs : List (ℕ × ℕ)) → (means a.space).pile ≡ p → (means a.space).choices ≡ cs → leb (length p) 1 ≡ none_left (later (means a.space).problem (ruling (means a.space) (rules a.rule)) p cs)
        go [] cs i j = absurd (sitting [] cs i j)
        go (N ∷ []) [] i j = sym (ap none_left (nothing-later (means a.space).problem (ruling (means a.space) (rules a.rule)) laws picks (N ∷ []) [] (sitting (N ∷ []) [] i j) (omega arith) (λ M q e k. closed (top-state st h M q (i ∙ e) ∙ k))))
        go (N ∷ []) (c ∷ cs) i j = absurd (sitting (N ∷ []) (c ∷ cs) i j).1
        go (N ∷ failed ∷ p) cs i j = absurd (sitting (N ∷ failed ∷ p) cs i j).1
        go (N ∷ table T ∷ p) [] i j = absurd (sitting (N ∷ table T ∷ p) [] i j).1
        go (N ∷ table T ∷ p) (c ∷ cs) i j =
            let s = means a.space in
            let R = ruling s (rules a.rule) in
            let e = nothing-under s.problem R laws picks N (λ k. closed (top-state st h N (table T ∷ p) i ∙ k)) in
            lt-leb (suc (suc (length p))) 1 (omega arith)
            ∙ sym (ap (λ (vs : List Visit). none_left (vs ++ (nodes (tree s.problem R (dropped c.0 c.1 T)) ++ rights s.problem R p cs))) e ∙ some-nodes (tree s.problem R (dropped c.0 c.1 T)) (rights s.problem R p cs))
