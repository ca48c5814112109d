-- The rounds of filtering. Assumes nothing.
use Rattle.std.proofs.Common.{◌≡◌, ℕ, suc, ◌+◌, ◌*◌, ◌<◌, ◌≤◌, Bool, true, false, eqb, ◌≢◌, List, [], ◌∷◌, length, Ok, Option, sym, refl, ap, ◌∙◌, subst, ⊎_elim, mul-le-mul, arith}
use Rattle.std.proofs.lemmas.Bool.{both_ways, or_left, or_right, or_from, cases_eq, cases_Bool, eq-eqb, ne_eqb}
use Rattle.bits.specs.Bit.{has, members, Empty}
use Rattle.tree.specs.Tables.{Table}
use Rattle.tree.specs.Filter.{Problem, Full, Filtered, failed, NodeOf}
use Rattle.tree.specs.Find.{grid, total}
use Rattle.tree.proofs.Tables.{same_test, inside_both, inside_trans}
use Rattle.tree.proofs.Pairs.{count-inside, count-grid, loses}
use Rattle.tree.proofs.Domains.{every-from, every-to}
use Rattle.model.specs.Values.{Record}
use Rattle.model.specs.Reading.{among}
use Rattle.model.specs.Drafts.{does_name}
use Rattle.tables.specs.States.{TableState, with_domains, Bounds}
use Rattle.kinds.specs.Demands.{Demands, demanded}
use Rattle.kinds.specs.Problems.{Asks, Laws, together}
use Rattle.kinds.specs.Passes.{Alive, Dead, Narrows, Passed}
use Rattle.kinds.specs.declared.shrunk.Shrunk.{Shrunk}
use Rattle.kinds.specs.Shrunk.{set_of, has_failed}
use Rattle.filtering.specs.Rings.{queue, Once}
use Rattle.filtering.specs.Waits.{Idle, woken}
use Rattle.filtering.specs.Filters.{does_begin, Begins, Narrowed, FilledUp}
use Rattle.filtering.proofs.Listing.{listed-member, not-listed}
use Rattle.filtering.proofs.Queues.{once-few, woken-left, woken-once, woken_only}
use Rattle.filtering.specs.declared.list.WaitingList.{WaitingList}
use Rattle.filtering.specs.declared.filter.Start.{Start}
use Rattle.filtering.specs.declared.filter.Start.TheVariants.{All, Changed}

-- how many rounds can still come: each takes a record off the list, or takes a value away and lets 64 records wait at most
abbrev pub left : Asks → Table → List ℕ → ℕ
left A T q = total (together A) T * 65 + length q

-- Between two rounds: a record that does not wait is stable.
pub record Mid (A : Asks) (s t : TableState) (l : WaitingList) (round : ℕ) : Type 0 where
  pub once : Once (queue l)
  pub narrowed : Narrowed (together A) s t
  pub full : Full (together A) t.domains
  pub rest : (i : ℕ) → i < A.count → among i (queue l) ≡ false → (A.demand i).stable t.domains ≡ true
  pub known : (i : ℕ) → among i (queue l) ≡ true → i < A.count
  pub enough : left A t.domains (queue l) + round ≤ 266304

module _ (A : Asks) (laws : Laws A) where
  few-values : (s : TableState) → s.variables ≡ A.variables → s.width ≡ A.width → Bounds s → total (together A) s.domains ≤ 4096
  few-values s vs ws b =
      let p = count-grid A.variables A.width s.domains in
      let n : A.variables ≤ 64 = omega (arith, vs, b.few) in
      let w : A.width ≤ 64 = omega (arith, ws, b.narrow) in
      let q = mul-le-mul n w in
      omega (arith, p, q)

  few_waiting : (q : List ℕ) → Once q → ((i : ℕ) → among i q ≡ true → i < A.count) → length q ≤ 64
  few_waiting q once known = let few = once-few A.count q once known in omega (arith, few, laws.few)

  pub narrowed_none : (s : TableState) → Narrowed (together A) s s
  narrowed_none s = record { others = refl; inside = λ x v h. h; keeps = λ S f. f.inside }

  narrowed_more : (s t u : TableState) (i : ℕ) → i < A.count → Narrowed (together A) s t → Narrows A.variables (A.demand i) t u → Narrowed (together A) s u
  narrowed_more s t u i l m n = record {
    others = n.others ∙ ap (λ (z : TableState). with_domains z u.domains) m.others;
    inside = inside_trans u.domains t.domains s.domains n.inside m.inside;
    keeps = λ S f. n.keeps S f.full (every-to A.count (λ j. (A.demand j).stable S) f.stable i l) (m.keeps S f);
  }

  -- what waits at first
  pub start_mid : (s : TableState) (start : Start) (is q : List ℕ) (l : WaitingList) → s.variables ≡ A.variables → s.width ≡ A.width → Bounds s
      → ((x : ℕ) → x < s.variables → Alive s.domains x) → ((i : ℕ) → i < A.count → among i is ≡ false → (A.demand i).stable s.domains ≡ true) → ((i : ℕ) → among i is ≡ true → i < A.count)
      → q ≡ [] → queue l ≡ woken is q → Mid A s s l 0
  start_mid s start is q l vs ws b f settled below e w =
      let once = subst Once (sym w) (woken-once is q (subst Once (sym e) tt)) in
      let known : (i : ℕ) → among i (queue l) ≡ true → i < A.count = λ i h. ⊎_elim (λ k. absurd (both_ways (among i q) (ap (among i) e) k)) (below i) (woken_only is q i (ap (among i) (sym w) ∙ h)) in
      record {
        once = once;
        narrowed = narrowed_none s;
        full = λ x h. f x (omega (arith, vs, h));
        rest = λ i h n. settled i h (woken-left is q i (ap (among i) (sym w) ∙ n)).1;
        known = known;
        enough = omega (arith, few-values s vs ws b, few_waiting (queue l) once known);
      }

  module _ (s t : TableState) (l m : WaitingList) (round item : ℕ) (mid : Mid A s t l round) (e : queue l ≡ item ∷ queue m) where
    pub first_known : item < A.count
    first_known = mid.known item (ap (among item) e ∙ or_left (eqb item item) (among item (queue m)) (eq-eqb item item refl))

    shorter : length (queue l) ≡ suc (length (queue m))
    shorter = ap length e

    others-once : Once (queue m)
    others-once = (subst Once e mid.once).1

    -- the first has waited, the others wait or are stable
    popped : (i : ℕ) → i < A.count → among i (queue m) ≡ false → i ≢ item → (A.demand i).stable t.domains ≡ true
    popped i h n d = mid.rest i h (ap (among i) e ∙ or_from (eqb i item) (among i (queue m)) (ne_eqb i item d) n)

    still_known : (i : ℕ) → among i (queue m) ≡ true → i < A.count
    still_known i h = mid.known i (ap (among i) e ∙ or_right (eqb i item) (among i (queue m)) h)

    module _ (u : TableState) (r : Shrunk) (p : Passed A.variables (A.demand item) t r u) where
      pub narrowed_on : Narrowed (together A) s u
      narrowed_on = narrowed_more s t u item first_known mid.narrowed p.narrows

      filled : has_failed r ≡ false → Full (together A) u.domains
      filled nf x h = ⊎_elim (λ n. p.full nf x n) (λ n. let a = mid.full x h in (a.0, p.narrows.named x a.0 n a.1)) (cases_Bool ((A.demand item).names x))

      -- nothing was taken away
      pub none_mid : Empty (has (set_of r).word) → has_failed r ≡ false → Mid A s u m (round + 1)
      none_mid z nf = record {
        once = others-once;
        narrowed = narrowed_on;
        full = filled nf;
        rest = λ i h n. ⊎_elim
            (λ q. subst (λ (k : ℕ). (A.demand k).stable u.domains ≡ true) (sym q) (p.stable z (p.full nf)))
            (λ d. ap (A.demand i).stable (sym same) ∙ popped i h n d)
            (cases_eq i item);
        known = still_known;
        enough = omega (arith, count-inside (grid A.variables A.width) u.domains t.domains p.narrows.inside, mid.enough, shorter);
      }
        where
          same : t.domains ≡ u.domains
          same = inside_both t.domains u.domains (λ x v. p.shrunk.same x v (z x)) p.narrows.inside

      module _ (vs : t.variables ≡ A.variables) (ws : t.width ≡ A.width) (b : Bounds t) (some : (x : ℕ) × (has (set_of r).word x ≡ true)) where
        gone : (v : ℕ) × (t.domains some.0 v ≡ true) × (u.domains some.0 v ≡ false)
        gone = p.shrunk.smaller some.0 some.1

        fewer : total (together A) u.domains < total (together A) t.domains
        fewer = loses (together A) u.domains t.domains some.0 gone.0
            (λ x v h. let k = b.within x v h in (omega (arith, k.0, vs), omega (arith, k.1, ws)))
            p.narrows.inside gone.1 (λ h. both_ways (u.domains some.0 gone.0) gone.2 h)

        named_gone : (A.demand item).names some.0 ≡ true
        named_gone = ⊎_elim (λ y. y) (λ n. absurd (both_ways (u.domains some.0 gone.0) gone.2 (p.narrows.named some.0 gone.0 n gone.1))) (cases_Bool ((A.demand item).names some.0))

        -- a variable that changed is one of the model's
        changed_below : (x : ℕ) → has (set_of r).word x ≡ true → x < A.variables
        changed_below x h = let g = p.shrunk.smaller x h in omega (arith, (b.within x g.0 g.1).0, vs)

        -- a record that was not woken names no variable that changed
        untouched : (is : List ℕ) → ((i : ℕ) → i < A.count → among i is ≡ false → (x : ℕ) → has (set_of r).word x ≡ true → A.names i x ≡ false)
            → (i x : ℕ) → i < A.count → among i is ≡ false → (A.demand i).names x ≡ true → has (set_of r).word x ≡ false
        untouched is f i x l n named = ⊎_elim (λ h. absurd (both_ways (A.names i x) (f i l n x h) (laws.names i x named))) (λ h. h) (cases_Bool (has (set_of r).word x))

        pub some_mid : (w : WaitingList) (is : List ℕ) → ((i : ℕ) → i < A.count → among i is ≡ false → (x : ℕ) → has (set_of r).word x ≡ true → A.names i x ≡ false) → ((i : ℕ) → among i is ≡ true → i < A.count)
            → has_failed r ≡ false → queue w ≡ woken is (queue m) → Mid A s u w (round + 1)
        some_mid w is f below nf wakes =
            let once = subst Once (sym wakes) (woken-once is (queue m) others-once) in
            let known : (i : ℕ) → among i (queue w) ≡ true → i < A.count = λ i h. ⊎_elim (still_known i) (below i) (woken_only is (queue m) i (ap (among i) (sym wakes) ∙ h)) in
            record {
              once = once;
              narrowed = narrowed_on;
              full = filled nf;
              rest = λ i h n.
                  let k = woken-left is (queue m) i (ap (among i) (sym wakes) ∙ n) in
                  ⊎_elim
                  (λ q. absurd (both_ways (has (set_of r).word some.0) (untouched is f i some.0 h k.1 (ap (λ (j : ℕ). (A.demand j).names some.0) q ∙ named_gone)) some.1))
                  (λ d. (laws.keeps i h).rests u.domains t.domains (λ x v y. same_test (u.domains x v) (t.domains x v) (p.narrows.inside x v) (p.shrunk.same x v (untouched is f i x h k.1 y))) ∙ popped i h k.0 d)
                  (cases_eq i item);
              known = known;
              enough = omega (arith, fewer, mid.enough, few_waiting (queue w) once known, shorter);
            }

  -- a variable has no value left, so that no table fits
  pub none-fits : (s u : TableState) → Narrowed (together A) s u → (x : ℕ) → x < A.variables → Dead u.domains x → NodeOf (together A) s.domains failed
  none-fits s u n x h f S fits = let g = fits.full x h in both_ways (u.domains x g.0) (f g.0) (n.keeps S fits x g.0 g.1)

  -- none waits
  pub done : (s t : TableState) (l : WaitingList) (round : ℕ) → Mid A s t l round → queue l ≡ [] → Filtered (together A) s.domains t.domains
  done s t l round mid e = record {
    fits = record {
      inside = mid.narrowed.inside;
      full = mid.full;
      stable = every-from A.count (λ i. (A.demand i).stable t.domains) (λ i h. mid.rest i h (ap (among i) e));
    };
    largest = mid.narrowed.keeps;
  }

  -- the records that do not wait at first are stable
  pub settled : (rs : List Record) (start : Start) (D : Table) → A.names ≡ does_name rs → Begins (together A) start D → (i : ℕ) → i < A.count → does_begin rs start i ≡ false → (A.demand i).stable D ≡ true
  settled rs All D e b i h n = absurd (both_ways true n refl)
  settled rs (Changed x) D e b i h n =
      (laws.keeps i h).rests D b.0 (λ y v ny. b.2 y v (λ q. both_ways (A.names i x) (ap (λ (f : ℕ → ℕ → Bool). f i x) e ∙ n) (laws.names i x (ap (A.demand i).names (sym q) ∙ ny))))
      ∙ every-to A.count (λ j. (A.demand j).stable b.0) b.1 i h

pub filled_true : (s : TableState) (b : Bool) → b ≡ true → FilledUp s (Ok b) → (x : ℕ) → x < s.variables → Alive s.domains x
filled_true s b e h = subst (λ (z : Bool). FilledUp s (Ok z)) e h

pub filled_false : (s : TableState) (b : Bool) → b ≡ false → FilledUp s (Ok b) → (x : ℕ) × (x < s.variables) × Dead s.domains x
filled_false s b e h = subst (λ (z : Bool). FilledUp s (Ok z)) e h

-- before the first round
pub at_first : (A : Asks) (laws : Laws A) (rs : List Record) (s : TableState) (start : Start) (R : ℕ) (before after : WaitingList) → A.names ≡ does_name rs → s.variables ≡ A.variables → s.width ≡ A.width → Bounds s
    → ((x : ℕ) → x < s.variables → Alive s.domains x) → Begins (together A) start s.domains → ((i : ℕ) → i < A.count → has R i ≡ does_begin rs start i) → ((i : ℕ) → has R i ≡ true → i < A.count)
    → Idle before → queue after ≡ woken (members R) (queue before) → Mid A s s after 0
at_first A laws rs s start R before after e vs ws b f begins is below idle wakes =
    start_mid A laws s start (members R) (queue before) after vs ws b f
    (λ i h n. settled A laws rs start s.domains e begins i h (sym (is i h) ∙ not-listed R i (omega (arith, h, laws.few)) n))
    (λ i h. below i (listed-member R i h).0) idle.0 wakes

-- a pass goes by the width of the table before it, which is that of the first
pub same_width : (D : Demands) (n : ℕ) (o : Option Record) (P : Problem) (s t u : TableState) (r : Shrunk) → Narrowed P s t → Passed n (demanded D t.width o) t r u → Passed n (demanded D s.width o) t r u
same_width D n o P s t u r m p = subst (λ (w : ℕ). Passed n (demanded D w o) t r u) (ap (λ (z : TableState). z.width) m.others) p
