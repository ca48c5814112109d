-- What calls with budgets answer, one by one and in runs. Assumes nothing.
use Rattle.std.proofs.Common.{◌≡◌, ℕ, zero, suc, ◌+◌, ◌<◌, ◌≤◌, true, ◌⊎◌, List, [], ◌∷◌, ◌++◌, length, take, drop, sym, refl, ap, ◌∙◌, ap₂, inl, inr, ⊎_elim, zero-add, arith, length-append, length-drop, take-append-drop, take_all, take-add}
use Rattle.std.proofs.lemmas.Bool.{true≢false, or_cases, or_left, or_right, cases_eq}
use Rattle.tree.specs.Search.{Tree, dead, plan, fork, Visit, is_failed, is_open, is_plan, nodes, plans, plans_among}
use Rattle.tree.specs.Budget.{Answer, planned, done, spent, plus, scan, counted, given, is_done, Answers, calls, counts, gives, ends, AtLeast}

-- plans among nodes

pub plans-append : (ms ns : List Visit) → plans_among (ms ++ ns) ≡ plans_among ms ++ plans_among ns
plans-append [] ns = refl
plans-append (is_failed ∷ ms) ns = plans-append ms ns
plans-append (is_open T ∷ ms) ns = plans-append ms ns
plans-append (is_plan a ∷ ms) ns = ap (λ q. a ∷ q) (plans-append ms ns)

pub plans-nodes : (t : Tree) → plans_among (nodes t) ≡ plans t
plans-nodes dead = refl
plans-nodes (plan a) = refl
plans-nodes (fork T x v l r) = plans-append (nodes l) (nodes r) ∙ ap₂ ◌++◌ (plans-nodes l) (plans-nodes r)

pub plans_split : (m : ℕ) (ns : List Visit) → plans_among (take m ns) ++ plans_among (drop m ns) ≡ plans_among ns
plans_split m ns = sym (plans-append (take m ns) (drop m ns)) ∙ ap plans_among (take-append-drop m ns)

-- answers after more visits

pub plus-zero : (r : Answer) → plus 0 r ≡ r
plus-zero (planned a c) = ap (planned a) (zero-add c)
plus-zero (done c) = ap done (zero-add c)
plus-zero (spent c) = ap spent (zero-add c)

pub plus-plus : (j k : ℕ) (r : Answer) → plus j (plus k r) ≡ plus (j + k) r
plus-plus j k (planned a c) = ap (planned a) (omega arith)
plus-plus j k (done c) = ap done (omega arith)
plus-plus j k (spent c) = ap spent (omega arith)

-- the scan keeps the rule of the answers

answers_more : (n : Visit) (ns : List Visit) (b : ℕ) (r : Answer) → ((ms : List Visit) → plans_among (n ∷ ms) ≡ plans_among ms) → Answers ns b r → Answers (n ∷ ns) (suc b) (plus 1 r)
answers_more n ns b (planned a c) same (before, after, e, p, k, le) = (n ∷ before, after, ap (λ q. n ∷ q) e, same before ∙ p, omega arith, omega arith)
answers_more n ns b (done c) same (p, k, le) = (same ns ∙ p, omega arith, omega arith)
answers_more n ns b (spent c) same (p, k, lt) = (same (take b ns) ∙ p, omega arith, omega arith)

pub scan-answers : (ns : List Visit) (b : ℕ) → Answers ns b (scan ns b)
scan-answers [] b = (refl, refl, omega arith)
scan-answers (n ∷ ns) zero = (refl, refl, omega arith)
scan-answers (is_plan a ∷ ns) (suc b) = ([], ns, refl, refl, refl, omega arith)
scan-answers (is_open T ∷ ns) (suc b) = answers_more (is_open T) ns b (scan ns b) (λ ms. refl) (scan-answers ns b)
scan-answers (is_failed ∷ ns) (suc b) = answers_more is_failed ns b (scan ns b) (λ ms. refl) (scan-answers ns b)

-- and no other answer does

cons_head : (m n : Visit) (ms ns : List Visit) → m ∷ ms ≡ n ∷ ns → m ≡ n
cons_head m n ms ns e = cc

cons_tail : (m n : Visit) (ms ns : List Visit) → m ∷ ms ≡ n ∷ ns → ms ≡ ns
cons_tail m n ms ns e = cc

some_plan : (a : List ℕ) (us : List (List ℕ)) → a ∷ us ≡ [] → ⊥
some_plan a us e = let z : ◌≡◌ {A = ℕ} 0 1 = cc in omega arith

module _ (n : Visit) (ns : List Visit) (b : ℕ) (same : (ms : List Visit) → plans_among (n ∷ ms) ≡ plans_among ms) (other : (a : List ℕ) → n ≡ is_plan a → ⊥) (only : (r : Answer) → Answers ns b r → r ≡ scan ns b) where
  planned_more : (a : List ℕ) (c : ℕ) (before after : List Visit) → n ∷ ns ≡ before ++ (is_plan a ∷ after) → plans_among before ≡ [] → c ≡ suc (length before) → c ≤ suc b → planned a c ≡ plus 1 (scan ns b)
  planned_more a c [] after e p k le = absurd (other a (cons_head n (is_plan a) ns after e))
  planned_more a c (m ∷ before) after e p k le =
      let rest = before ++ (is_plan a ∷ after) in
      let q : plans_among before ≡ [] = sym (same before) ∙ ap (λ (z : Visit). plans_among (z ∷ before)) (cons_head n m ns rest e) ∙ p in
      let h = only (planned a (suc (length before))) (before, after, cons_tail n m ns rest e, q, refl, omega arith) in
      let j : c ≡ 1 + suc (length before) = omega arith in
      ap (planned a) j ∙ ap (plus 1) h

  only_more : (r : Answer) → Answers (n ∷ ns) (suc b) r → r ≡ plus 1 (scan ns b)
  only_more (planned a c) (before, after, e, p, k, le) = planned_more a c before after e p k le
  only_more (done c) (p, k, le) =
      let j : c ≡ 1 + length ns = omega arith in
      ap done j ∙ ap (plus 1) (only (done (length ns)) (sym (same ns) ∙ p, refl, omega arith))
  only_more (spent c) (p, k, lt) =
      let j : c ≡ 1 + b = omega arith in
      ap spent j ∙ ap (plus 1) (only (spent b) (sym (same (take b ns)) ∙ p, refl, omega arith))

module _ (a : List ℕ) (ns : List Visit) (b : ℕ) where
  planned_first : (u : List ℕ) (c : ℕ) (before after : List Visit) → is_plan a ∷ ns ≡ before ++ (is_plan u ∷ after) → plans_among before ≡ [] → c ≡ suc (length before) → planned u c ≡ planned a 1
  planned_first u c [] after e p k = let same : u ≡ a = cc in ap₂ planned same k
  planned_first u c (m ∷ before) after e p k =
      absurd (some_plan a (plans_among before) (ap (λ (z : Visit). plans_among (z ∷ before)) (cons_head (is_plan a) m ns (before ++ (is_plan u ∷ after)) e) ∙ p))

  only_first : (r : Answer) → Answers (is_plan a ∷ ns) (suc b) r → r ≡ planned a 1
  only_first (planned u c) (before, after, e, p, k, le) = planned_first u c before after e p k
  only_first (done c) (p, k, le) = absurd (some_plan a (plans_among ns) p)
  only_first (spent c) (p, k, lt) = absurd (some_plan a (plans_among (take b ns)) p)

none_before : (n : Visit) (before after : List Visit) → [] ≡ before ++ (n ∷ after) → ⊥
none_before n before after e = let q = ap length e ∙ length-append before (n ∷ after) in omega arith

pub scan_only : (ns : List Visit) (b : ℕ) (r : Answer) → Answers ns b r → r ≡ scan ns b
scan_only [] b (planned a c) (before, after, e, p, k, le) = absurd (none_before (is_plan a) before after e)
scan_only [] b (done c) (p, k, le) = ap done k
scan_only [] b (spent c) (p, k, lt) = absurd (omega arith)
scan_only (n ∷ ns) zero (planned a c) (before, after, e, p, k, le) = absurd (omega arith)
scan_only (n ∷ ns) zero (done c) (p, k, le) = absurd (omega arith)
scan_only (n ∷ ns) zero (spent c) (p, k, lt) = ap spent k
scan_only (is_plan a ∷ ns) (suc b) r h = only_first a ns b r h
scan_only (is_open T ∷ ns) (suc b) r h = only_more (is_open T) ns b (λ ms. refl) (λ a e. let z : ◌≡◌ {A = ℕ} 0 1 = cc in omega arith) (scan_only ns b) r h
scan_only (is_failed ∷ ns) (suc b) r h = only_more is_failed ns b (λ ms. refl) (λ a e. let z : ◌≡◌ {A = ℕ} 0 1 = cc in omega arith) (scan_only ns b) r h

-- what the rule of the answers says of the count and of the plan given

pub record Scanned (ns : List Visit) (b : ℕ) (r : Answer) : Type 0 where
  pub within : counted r ≤ length ns
  pub budget : counted r ≤ b
  pub moves : 0 < b → 0 < length ns → 0 < counted r
  pub gives : given r ≡ plans_among (take (counted r) ns)
  pub whole : is_done r ≡ true → counted r ≡ length ns

first_plan : (a : List ℕ) (before after : List Visit) → plans_among before ≡ [] → plans_among (take (suc (length before)) (before ++ (is_plan a ∷ after))) ≡ a ∷ []
first_plan a [] after p = refl
first_plan a (is_failed ∷ before) after p = first_plan a before after p
first_plan a (is_open T ∷ before) after p = first_plan a before after p
first_plan a (is_plan u ∷ before) after p = absurd (some_plan u (plans_among before) p)

pub answers_scanned : (ns : List Visit) (b : ℕ) (r : Answer) → Answers ns b r → Scanned ns b r
answers_scanned ns b (planned a c) (before, after, e, p, k, le) = record {
  within = omega (arith, ap length e ∙ length-append before (is_plan a ∷ after));
  budget = le;
  moves = λ _ _. omega arith;
  gives = sym (ap₂ (λ (j : ℕ) (ms : List Visit). plans_among (take j ms)) k e ∙ first_plan a before after p);
  whole = λ d. absurd (true≢false (sym d));
}
answers_scanned ns b (done c) (p, k, le) = record {
  within = omega arith;
  budget = le;
  moves = λ _ h. omega arith;
  gives = sym (ap plans_among (take_all c ns (omega arith)) ∙ p);
  whole = λ _. k;
}
answers_scanned ns b (spent c) (p, k, lt) = record {
  within = omega arith;
  budget = omega arith;
  moves = λ h _. omega arith;
  gives = sym (ap (λ (j : ℕ). plans_among (take j ns)) k ∙ p);
  whole = λ d. absurd (true≢false (sym d));
}

pub scanned : (ns : List Visit) (b : ℕ) → Scanned ns b (scan ns b)
scanned ns b = answers_scanned ns b (scan ns b) (scan-answers ns b)

-- runs of calls

pub calls-within : (bs : List ℕ) (ns : List Visit) → counts (calls ns bs) ≤ length ns
calls-within [] ns = omega arith
calls-within (b ∷ bs) ns =
    let c = counted (scan ns b) in
    omega (arith, calls-within bs (drop c ns), length-drop c ns, (scanned ns b).within)

pub calls-among : (bs : List ℕ) (ns : List Visit) → gives (calls ns bs) ≡ plans_among (take (counts (calls ns bs)) ns)
calls-among [] ns = refl
calls-among (b ∷ bs) ns =
    let c = counted (scan ns b) in
    let k = counts (calls (drop c ns) bs) in
    ap₂ ◌++◌ (scanned ns b).gives (calls-among bs (drop c ns)) ∙ sym (plans-append (take c ns) (take k (drop c ns))) ∙ ap plans_among (sym (take-add c k ns))

pub calls-whole : (bs : List ℕ) (ns : List Visit) → counts (calls ns bs) ≡ length ns → gives (calls ns bs) ≡ plans_among ns
calls-whole bs ns e = calls-among bs ns ∙ ap plans_among (take_all (counts (calls ns bs)) ns (omega arith))

pub calls_done : (bs : List ℕ) (ns : List Visit) → ends (calls ns bs) ≡ true → counts (calls ns bs) ≡ length ns
calls_done [] ns e = absurd (true≢false (sym e))
calls_done (b ∷ bs) ns e =
    let c = counted (scan ns b) in
    let l = length-drop c ns in
    ⊎_elim
    (λ d. omega (arith, (scanned ns b).whole d, calls-within bs (drop c ns)))
    (λ d. omega (arith, calls_done bs (drop c ns) d, (scanned ns b).within))
    (or_cases (is_done (scan ns b)) (ends (calls (drop c ns) bs)) e)

pub calls_one_by_one : (bs : List ℕ) (ns : List Visit) → AtLeast 1 bs → length ns ≤ length bs → counts (calls ns bs) ≡ length ns
calls_one_by_one [] ns a le = omega arith
calls_one_by_one (b ∷ bs) ns a le =
    let c = counted (scan ns b) in
    let l = length-drop c ns in
    let f = scanned ns b in
    ⊎_elim
    (λ (z : length ns ≡ 0). omega (arith, calls-within (b ∷ bs) ns))
    (λ z. let m = f.moves a.0 (omega arith) in omega (arith, calls_one_by_one bs (drop c ns) a.1 (omega arith), f.within))
    (cases_eq (length ns) 0)

pub calls_then_done : (bs : List ℕ) (ns : List Visit) → AtLeast 1 bs → length ns < length bs → ends (calls ns bs) ≡ true
calls_then_done [] ns a lt = absurd (omega arith)
calls_then_done (b ∷ bs) [] a lt = refl
calls_then_done (b ∷ bs) (n ∷ ns) a lt =
    let c = counted (scan (n ∷ ns) b) in
    let l = length-drop c (n ∷ ns) in
    let m = (scanned (n ∷ ns) b).moves a.0 (omega arith) in
    or_right (is_done (scan (n ∷ ns) b)) (ends (calls (drop c (n ∷ ns)) bs)) (calls_then_done bs (drop c (n ∷ ns)) a.1 (omega arith))

at_least_less : (j k : ℕ) (bs : List ℕ) → j ≤ k → AtLeast k bs → AtLeast j bs
at_least_less j k [] le a = tt
at_least_less j k (b ∷ bs) le a = (omega (arith, a.0), at_least_less j k bs le a.1)

-- a budget for all nodes: no plan is left, or one fewer
one_fewer : (ns : List Visit) (b : ℕ) (r : Answer) → length ns ≤ b → Answers ns b r → Scanned ns b r → (is_done r ≡ true) ⊎ (length (plans_among (drop (counted r) ns)) < length (plans_among ns))
one_fewer ns b (planned a c) le h f =
    let e = ap length (sym (plans_split c ns)) ∙ length-append (plans_among (take c ns)) (plans_among (drop c ns)) in
    let g = ap length f.gives in
    inr (omega arith)
one_fewer ns b (done c) le h f = inl refl
one_fewer ns b (spent c) le (p, k, lt) f = absurd (omega arith)

pub calls_plan_by_plan : (bs : List ℕ) (ns : List Visit) → AtLeast (length ns) bs → length (plans_among ns) < length bs → ends (calls ns bs) ≡ true
calls_plan_by_plan [] ns a lt = absurd (omega arith)
calls_plan_by_plan (b ∷ bs) ns a lt =
    let c = counted (scan ns b) in
    let d = is_done (scan ns b) in
    let l = length-drop c ns in
    ⊎_elim
    (or_left d (ends (calls (drop c ns) bs)))
    (λ m. or_right d (ends (calls (drop c ns) bs)) (calls_plan_by_plan bs (drop c ns) (at_least_less (length (drop c ns)) (length ns) bs (omega arith) a.1) (omega arith)))
    (one_fewer ns b (scan ns b) a.0 (scan-answers ns b) (scanned ns b))
