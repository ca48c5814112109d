-- The law over runs.
use Rattle.std.proofs.Common.{◌≡◌, ℕ, ◌+◌, ◌<◌, ◌≤◌, Bool, true, false, ◌||◌, List, [], ◌∷◌, ◌++◌, length, take, drop, Ok, Err, sym, refl, ap, ◌∙◌, subst, ap₂, inl, inr, true≢false, arith}
use Rattle.std.proofs.lemmas.List.{take_at, drop-drop}
use Rattle.tree.specs.Tables.{Table}
use Rattle.tree.specs.Filter.{Problem, Lawful, Bounded, Node}
use Rattle.tree.specs.Search.{Rule, Picks, Visit, nodes, plans, plans_among, Listed, Front}
use Rattle.tree.specs.Find.{tree}
use Rattle.tree.specs.Budget.{Answer as Found, planned, done, spent, scan, counted, left_by, calls, counts, gives, ends}
use Rattle.tree.specs.Theorems.{Plans}
use Rattle.tree.proofs.Budgets.{plans_split, plans-nodes, calls-within, calls-among, calls-whole, calls_done}
use Rattle.tree.proofs.Trees.{tree_is, tree_unique}
use Rattle.tree.proofs.Plans.{sound as plans-sound, complete, apart, ordered}
use Rattle.tables.specs.States.{Within}
use Rattle.spaces.specs.Pile.{SpaceState, piled}
use Rattle.spaces.specs.Calls.{enters, Enters}
use Rattle.search.specs.Sessions.{SearchState, rest, Begun, Went, told, row_after}
use Rattle.search.specs.Runs.{Event, Runs, rests, begins, asks, closes, Call, since, begun, budgets, count, total, gave, given, is_done, finished, Answered, AllAnswered, Lists, Law}
use Rattle.search.specs.declared.search.Answer.{Answer}
use Rattle.search.proofs.Moves.{entered}

-- one call more

budgets_push : (cs : List Call) (c : Call) → budgets (cs ++ (c ∷ [])) ≡ budgets cs ++ (c.budget ∷ [])
budgets_push [] c = refl
budgets_push (d ∷ cs) c = ap (λ (bs : List ℕ). d.budget ∷ bs) (budgets_push cs c)

left_after : List Visit → List ℕ → List Visit
left_after ns bs = drop (counts (calls ns bs)) ns

calls_push : (ns : List Visit) (bs : List ℕ) (b : ℕ) → calls ns (bs ++ (b ∷ [])) ≡ calls ns bs ++ (scan (drop (counts (calls ns bs)) ns) b ∷ [])
calls_push ns [] b = refl
calls_push ns (d ∷ bs) b =
    let r = scan ns d in
    ap (λ (rs : List Found). r ∷ rs) (calls_push (left_by r ns) bs b ∙ ap (λ (ms : List Visit). calls (left_by r ns) bs ++ (scan ms b ∷ [])) (drop-drop (counts (calls (left_by r ns) bs)) (counted r) ns))

counts_push : (rs : List Found) (r : Found) → counts (rs ++ (r ∷ [])) ≡ counts rs + counted r
counts_push [] r = omega arith
counts_push (q ∷ rs) r = omega (arith, counts_push rs r)

answered_push : (cs : List Call) (rs : List Found) (c : Call) (r : Found) → AllAnswered cs rs → Answered c r → AllAnswered (cs ++ (c ∷ [])) (rs ++ (r ∷ []))
answered_push [] [] c r a h = (h, tt)
answered_push [] (q ∷ rs) c r a h = absurd a
answered_push (d ∷ cs) [] c r a h = absurd a
answered_push (d ∷ cs) (q ∷ rs) c r a h = (a.0, answered_push cs rs c r a.1 h)

answered_as : (b : ℕ) (old new : List ℕ) (r : Answer) (f : Found) → r ≡ told f → new ≡ row_after f old → Answered (record { budget = b; old = old; answer = r; new = new }) f
answered_as b old new r (planned a k) e h = (e, h)
answered_as b old new r (done k) e h = (e, h)
answered_as b old new r (spent k) e h = (e, h)

-- sums and plans of calls that answered so

total-is : (cs : List Call) (rs : List Found) → AllAnswered cs rs → total cs ≡ counts rs
total-is [] [] a = refl
total-is [] (r ∷ rs) a = absurd a
total-is (c ∷ cs) [] a = absurd a
total-is (c ∷ cs) (planned p k ∷ rs) a = ap₂ (λ (x y : ℕ). x + y) (ap count a.0.0) (total-is cs rs a.1)
total-is (c ∷ cs) (done k ∷ rs) a = ap₂ (λ (x y : ℕ). x + y) (ap count a.0.0) (total-is cs rs a.1)
total-is (c ∷ cs) (spent k ∷ rs) a = ap₂ (λ (x y : ℕ). x + y) (ap count a.0.0) (total-is cs rs a.1)

finished-is : (cs : List Call) (rs : List Found) → AllAnswered cs rs → finished cs ≡ ends rs
finished-is [] [] a = refl
finished-is [] (r ∷ rs) a = absurd a
finished-is (c ∷ cs) [] a = absurd a
finished-is (c ∷ cs) (planned p k ∷ rs) a = ap₂ (λ (x y : Bool). x || y) (ap is_done a.0.0) (finished-is cs rs a.1)
finished-is (c ∷ cs) (done k ∷ rs) a = ap₂ (λ (x y : Bool). x || y) (ap is_done a.0.0) (finished-is cs rs a.1)
finished-is (c ∷ cs) (spent k ∷ rs) a = ap₂ (λ (x y : Bool). x || y) (ap is_done a.0.0) (finished-is cs rs a.1)

given_is : (n : ℕ) (cs : List Call) (rs : List Found) → AllAnswered cs rs → ((a : List ℕ) → Listed a (gives rs) → length a ≡ n) → given n cs ≡ gives rs
given_is n [] [] a long = refl
given_is n [] (r ∷ rs) a long = absurd a
given_is n (c ∷ cs) [] a long = absurd a
given_is n (c ∷ cs) (planned p k ∷ rs) a long =
    let row : take n c.new ≡ p = ap (take n) a.0.1 ∙ take_at p (drop (length p) c.old) n (long p (inl refl)) in
    ap (λ (r : Answer). gave n r c.new ++ given n cs) a.0.0 ∙ ap₂ (λ (q : List ℕ) (ps : List (List ℕ)). q ∷ ps) row (given_is n cs rs a.1 (λ b l. long b (inr l)))
given_is n (c ∷ cs) (done k ∷ rs) a long = ap (λ (r : Answer). gave n r c.new ++ given n cs) a.0.0 ∙ given_is n cs rs a.1 long
given_is n (c ∷ cs) (spent k ∷ rs) a long = ap (λ (r : Answer). gave n r c.new ++ given n cs) a.0.0 ∙ given_is n cs rs a.1 long

listed-front : (a : List ℕ) (us vs : List (List ℕ)) → Front us vs → Listed a us → Listed a vs
listed-front a us vs f l = subst (Listed a) f.1 (left us l)
  where
    left : (ps : List (List ℕ)) → Listed a ps → Listed a (ps ++ f.0)
    left [] l = absurd l
    left (p ∷ ps) (inl e) = inl e
    left (p ∷ ps) (inr l) = inr (left ps l)

-- the calls since a begin list the plans of the tree

module _ (P : Problem) (R : Rule) (laws : Lawful P) (picks : Picks P R) (D : Table) (b : Bounded P D) where
  list : Plans P D (tree P R D)
  list = record {
    sound = λ a l. plans-sound P R laws picks (tree P R D) D a b (tree_is P R laws picks D b) l;
    complete = λ a s. complete P R laws picks (tree P R D) D a b (tree_is P R laws picks D b) s;
    apart = apart P R laws picks (tree P R D) D b (tree_is P R laws picks D b);
    ordered = ordered P R laws picks (tree P R D) D b (tree_is P R laws picks D b);
  }

  lists : (cs : List Call) → AllAnswered cs (calls (nodes (tree P R D)) (budgets cs)) → Lists P D (tree P R D) cs
  lists cs a =
      let t = tree P R D in
      let ns = nodes t in
      let bs = budgets cs in
      let rs = calls ns bs in
      let m = counts rs in
      let f : Front (gives rs) (plans t) = (plans_among (drop m ns), ap (λ (q : List (List ℕ)). q ++ plans_among (drop m ns)) (calls-among bs ns) ∙ plans_split m ns ∙ plans-nodes t) in
      let long : (p : List ℕ) → Listed p (gives rs) → length p ≡ P.variables = λ p l. (list.sound p (listed-front p (gives rs) (plans t) f l)).from.long in
      let g : given P.variables cs ≡ gives rs = given_is P.variables cs rs a long in
      let e : total cs ≡ m = total-is cs rs a in
      let d : finished cs ≡ ends rs = finished-is cs rs a in
      record {
        front = subst (λ (us : List (List ℕ)). Front us (plans t)) (sym g) f;
        whole = λ h. g ∙ calls-whole bs ns (calls_done bs ns (sym d ∙ h)) ∙ plans-nodes t;
        list = list;
        answers = a;
        within = subst (λ (k : ℕ). k ≤ length ns) (sym e) (calls-within bs ns);
        ends = λ h. e ∙ calls_done bs ns (sym d ∙ h);
        among = g ∙ calls-among bs ns ∙ ap (λ (k : ℕ). plans_among (take k ns)) (sym e);
      }

-- along a run

clash : {X : Type 0} (b : Bool) → b ≡ true → b ≡ false → X
clash b p q = absurd (true≢false (sym p ∙ q))

module _ (a : SearchState) where
  -- the nodes of the tree of the base
  abbrev all : List Visit
  all = nodes (tree a.space.problem a.rule a.space.base)

  -- a search in the state s came from a, with the accepted calls cs since the last accepted begin, if there was one
  record Reached (s : SearchState) (cs : List Call) (b : Bool) : Type 0 where
    session : s.session ≡ true → b ≡ true
    none : b ≡ false → cs ≡ []
    idle : s.session ≡ false → s.space ≡ a.space
    space : s.space ≡ piled a.space s.space.pile s.space.choices
    rule : s.rule ≡ a.rule
    bounded : b ≡ true → Bounded a.space.problem a.space.base
    empty : b ≡ true → a.space ≡ piled a.space [] []
    answers : b ≡ true → AllAnswered cs (calls all (budgets cs))
    left : s.session ≡ true → rest s ≡ drop (counts (calls all (budgets cs))) all

  module _ (laws : Lawful a.space.problem) (picks : Picks a.space.problem a.rule) (within : Within a.space.variables a.space.problem.width a.space.base) (clear : a.space.pile ≡ [] → a.space.choices ≡ []) where
    begin_reached : (s t : SearchState) (cs : List Call) (b : Bool) → Reached s cs b → Begun s t → Reached t [] true
    begin_reached s t cs b h g = go a.space.pile refl (subst (λ (x : SpaceState). Enters x t.space (Ok tt)) (h.idle g.idle) g.enters)
      where
        go : (p : List Node) → a.space.pile ≡ p → enters a.space p t.space (Ok tt) → Reached t [] true
        go [] e (ready, deep, puts) =
            let N = puts.0 in
            let u : SearchState = record { session = true; fresh = true; space = piled a.space (N ∷ []) []; rule = a.rule } in
            let is : t ≡ u = g.opened ∙ ap₂ (λ (x : SpaceState) (r : Rule). record { session = true; fresh = true; space = x; rule = r }) puts.2 h.rule in
            let bd : Bounded a.space.problem a.space.base = λ x v k. (subst (λ (n : ℕ). x < n) ready.variables (within x v k).0, (within x v k).1) in
            let cl : a.space ≡ piled a.space [] [] = ap₂ (λ (q : List Node) (c : List (ℕ × ℕ)). piled a.space q c) e (clear e) in
            subst (λ (x : SearchState). Reached x [] true) (sym is) (record {
              session = λ k. refl;
              none = λ k. refl;
              idle = λ k. absurd (true≢false k);
              space = refl;
              rule = refl;
              bounded = λ k. bd;
              empty = λ k. cl;
              answers = λ k. tt;
              left = λ k. entered a.space.problem a.rule laws picks a.space.base N bd puts.1;
            })
        go (N ∷ p) e f = absurd f

    next_reached : (s t : SearchState) (cs : List Call) (b : Bool) (n : ℕ) (old new : List ℕ) (r : Answer) → Reached s cs b → Went s n old r t new → Reached t (cs ++ (record { budget = n; old = old; answer = r; new = new } ∷ [])) b
    next_reached s t cs b n old new r h w =
        let begun-before = h.session w.open_session in
        let c : Call = record { budget = n; old = old; answer = r; new = new } in
        let m = counts (calls all (budgets cs)) in
        let q : rest s ≡ drop m all = h.left w.open_session in
        let f = scan (drop m all) n in
        let pushed : calls all (budgets (cs ++ (c ∷ []))) ≡ calls all (budgets cs) ++ (f ∷ []) = ap (calls all) (budgets_push cs c) ∙ calls_push all (budgets cs) n in
        let sum : counts (calls all (budgets (cs ++ (c ∷ [])))) ≡ m + counted f = ap counts pushed ∙ counts_push (calls all (budgets cs)) f in
        record {
          session = λ k. begun-before;
          none = λ k. clash b begun-before k;
          idle = λ k. clash t.session w.session k;
          space = w.space ∙ ap (λ (x : SpaceState). piled x t.space.pile t.space.choices) h.space;
          rule = w.rule ∙ h.rule;
          bounded = h.bounded;
          empty = h.empty;
          answers = λ k. subst (AllAnswered (cs ++ (c ∷ []))) (sym pushed) (answered_push cs (calls all (budgets cs)) c f (h.answers k) (answered_as n old new r f (w.answer ∙ ap (λ (vs : List Visit). told (scan vs n)) q) (w.row ∙ ap (λ (vs : List Visit). row_after (scan vs n) old) q)));
          left = λ k. w.left ∙ ap (λ (vs : List Visit). left_by (scan vs n) vs) q ∙ drop-drop (counted f) m all ∙ ap (λ (i : ℕ). drop i all) (sym sum);
        }

    close_reached : (s t : SearchState) (cs : List Call) (b : Bool) → Reached s cs b → s.session ≡ true → t ≡ record { session = false; fresh = s.fresh; space = piled s.space [] []; rule = s.rule } → Reached t cs b
    close_reached s t cs b h o is =
        let back : piled s.space [] [] ≡ a.space = ap (λ (x : SpaceState). piled x [] []) h.space ∙ sym (h.empty (h.session o)) in
        subst (λ (x : SearchState). Reached x cs b) (sym is) (record {
          session = λ k. absurd (true≢false (sym k));
          none = h.none;
          idle = λ k. back;
          space = ap (λ (x : SpaceState). piled x [] []) h.space;
          rule = h.rule;
          bounded = h.bounded;
          empty = h.empty;
          answers = h.answers;
          left = λ k. absurd (true≢false (sym k));
        })

    module _ {S : Type 0} (view : S → SearchState) (sound : S → Type 0) where
      run_reached : (x y : S) (es : List Event) (cs : List Call) (b : Bool) → Runs view sound x es y → sound x → Reached (view x) cs b → Reached (view y) (since cs es) (begun b es)
      run_reached x y es cs b rests o h = h
      run_reached x y es cs b (begins {b = z} {es = fs} {r = Ok k} f run) o h = let p = f o in run_reached z y fs [] true run p.1 (begin_reached (view x) (view z) cs b h p.0)
      run_reached x y es cs b (begins {b = z} {es = fs} {r = Err e} f run) o h = let p = f o in run_reached z y fs cs b run p.1 (subst (λ (s : S). Reached (view s) cs b) (sym p.0.0) h)
      run_reached x y es cs b (asks {b = z} {es = fs} {budget = n} {old = old} {new = new} {r = Ok r} f run) o h = let p = f o in run_reached z y fs (cs ++ (record { budget = n; old = old; answer = r; new = new } ∷ [])) b run p.1 (next_reached (view x) (view z) cs b n old new r h p.0)
      run_reached x y es cs b (asks {b = z} {es = fs} {r = Err e} f run) o h = let p = f o in run_reached z y fs cs b run p.1 (subst (λ (s : S). Reached (view s) cs b) (sym p.0.0) h)
      run_reached x y es cs b (closes {b = z} {es = fs} {r = Ok u} f run) o h = let p = f o in run_reached z y fs cs b run p.1 (close_reached (view x) (view z) cs b h p.0.0 p.0.1)
      run_reached x y es cs b (closes {b = z} {es = fs} {r = Err e} f run) o h = let p = f o in run_reached z y fs cs b run p.1 (subst (λ (s : S). Reached (view s) cs b) (sym p.0.0) h)

-- the law of a search just opened
pub law : {S : Type 0} (view : S → SearchState) (sound : S → Type 0) (x : S) → Lawful (view x).space.problem → Picks (view x).space.problem (view x).rule → Within (view x).space.variables (view x).space.problem.width (view x).space.base → ((view x).space.pile ≡ [] → (view x).space.choices ≡ []) → (view x).session ≡ false → sound x → (es : List Event) (y : S) → Runs view sound x es y → Law view x es y
law {S} view sound x laws picks within clear idle o es y run =
    let a = view x in
    let start : Reached a a [] false = record {
      session = λ k. sym idle ∙ k;
      none = λ k. refl;
      idle = λ k. refl;
      space = refl;
      rule = refl;
      bounded = λ k. absurd (true≢false (sym k));
      empty = λ k. absurd (true≢false (sym k));
      answers = λ k. absurd (true≢false (sym k));
      left = λ k. clash a.session k idle;
    } in
    let h = run_reached a laws picks within clear view sound x y es [] false run o start in
    let P = a.space.problem in
    let R = a.rule in
    let D = a.space.base in
    record {
      before = h.none;
      since_begin = λ k. let b = h.bounded k in (tree P R D, tree_is P R laws picks D b, (λ s e. tree_unique P R laws picks s (tree P R D) D b e (tree_is P R laws picks D b)), lists P R laws picks D b (since [] es) (h.answers k));
      restored = h.idle;
    }
