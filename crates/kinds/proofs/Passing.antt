-- The steps that every pass has. Assumes nothing.
use Rattle.std.proofs.Common.{◌≡◌, ℕ, true, false, not, ◌&&◌, ◌||◌, eqb, sym, refl, ap, ◌∙◌, subst, ap₂, ⊎_elim}
use Rattle.std.proofs.lemmas.Bool.{both_ways, and_left, or_cases, or_parts, eqb-true, eqb-false, cases_Bool, cases_eq}
use Rattle.bits.specs.Bit.{has, Empty}
use Rattle.bits.specs.declared.Set.{Set}
use Rattle.tree.specs.Tables.{Table, Inside, dropped}
use Rattle.tree.proofs.Tables.{inside_both, inside_trans, dropped-inside, dropped-has, dropped-not}
use Rattle.tables.specs.States.{TableState, with_domains}
use Rattle.kinds.specs.Demands.{Demand}
use Rattle.kinds.specs.Laws.{Filled}
use Rattle.kinds.specs.Passes.{Narrows, Alive, Dead, Passed}
use Rattle.kinds.specs.Sofar.{Sofar}
use Rattle.kinds.specs.declared.shrunk.Shrunk.{Shrunk}
use Rattle.kinds.specs.Shrunk.{set_of, has_failed}

-- All named variables have a value.
abbrev pub Living : Demand → Table → Type 0
Living A T = (x : ℕ) → A.names x ≡ true → Alive T x

pub not_both : (T : Table) (x : ℕ) → Alive T x → Dead T x → ⊥
not_both T x a d = both_ways (T x a.0) (d a.0) a.1

pub sofar-none : (n : ℕ) (A : Demand) (s : TableState) (set : Set) → Empty (has set.word) → Sofar n A s set s
sofar-none n A s set none = record {
  narrows = record { others = refl; inside = λ x v h. h; named = λ x v e h. h; keeps = λ S f e h. h };
  shrunk = record { smaller = λ x h. absurd (both_ways (has set.word x) (none x) h); same = λ x v e h. h };
}

gone : (y v : ℕ) (T : Table) → dropped y v T y v ≡ false
gone y v T = ⊎_elim (λ e. absurd (dropped-not y v T y v e (refl, refl))) (λ e. e) (cases_Bool (dropped y v T y v))

-- a value that no stable table inside has is dropped
pub sofar-drop : (n : ℕ) (A : Demand) (s : TableState) (set more : Set) (t u : TableState) (y v : ℕ)
    → Sofar n A s set t → A.names y ≡ true
    → ((S : Table) → Filled n S → A.stable S ≡ true → Inside S s.domains → S y v ≡ false)
    → t.domains y v ≡ true → ((z : ℕ) → has more.word z ≡ (has set.word z || eqb z y))
    → u ≡ with_domains t (dropped y v t.domains) → Sofar n A s more u
sofar-drop n A s set more t u y v so ny bar here grown e = subst (Sofar n A s more) (sym e) (record {
  narrows = record {
    others = ap (λ (z : TableState). with_domains z U) so.narrows.others;
    inside = inside_trans U T s.domains (dropped-inside y v T) so.narrows.inside;
    named = λ x w k h. dropped-has y v T x w (so.narrows.named x w k h) (λ q. both_ways (A.names x) k (ap A.names q.0 ∙ ny));
    keeps = λ S f st ins x w h. dropped-has y v T x w (so.narrows.keeps S f st ins x w h) (λ q. both_ways (S y v) (bar S f st ins) (sym (ap₂ S q.0 q.1) ∙ h));
  };
  shrunk = record {
    smaller = λ z h. ⊎_elim
        (λ k. let m = so.shrunk.smaller z k in (m.0, m.1, and_left (T z m.0) (not (eqb z y && eqb m.0 v)) m.2))
        (λ k. let q = eqb-true z y k in (v, ap (λ (j : ℕ). s.domains j v) q ∙ so.narrows.inside y v here, ap (λ (j : ℕ). U j v) q ∙ gone y v T))
        (or_cases (has set.word z) (eqb z y) (sym (grown z) ∙ h));
    same = λ z w k h.
        let p = or_parts (has set.word z) (eqb z y) (sym (grown z) ∙ k) in
        dropped-has y v T z w (so.shrunk.same z w p.0 h) (λ q. eqb-false z y p.1 q.0);
  };
})
  where
    T : Table
    T = t.domains

    U : Table
    U = dropped y v t.domains

-- a value that is not there can be dropped
pub drop-none : (t u : TableState) (y v : ℕ) → t.domains y v ≡ false → u ≡ with_domains t (dropped y v t.domains) → u ≡ t
drop-none t u y v none e =
    e ∙ ap (with_domains t) (inside_both (dropped y v t.domains) t.domains (dropped-inside y v t.domains)
    (λ x w h. dropped-has y v t.domains x w h (λ q. both_ways (t.domains y v) none (sym (ap₂ t.domains q.0 q.1) ∙ h))))

-- where nothing was taken away by two steps, nothing was by the first
pub nothing_yet : (n : ℕ) (A : Demand) (s : TableState) (set more : Set) (t u : TableState) → Sofar n A s set t → Sofar n A s more u → u ≡ t → Empty (has more.word) → Empty (has set.word)
nothing_yet n A s set more t u a b e none x = ⊎_elim (λ h.
    let g = a.shrunk.smaller x h in
    let same = ap (λ (y : TableState). y.domains x g.0) e in
    absurd (both_ways (t.domains x g.0) g.2 (sym same ∙ b.shrunk.same x g.0 (none x) g.1))) (λ h. h) (cases_Bool (has set.word x))

-- a variable that is not named keeps its values, so that it does not get empty
emptied_named : (n : ℕ) (A : Demand) (s u : TableState) → Narrows n A s u → (x : ℕ) → Alive s.domains x → Dead u.domains x → A.names x ≡ true
emptied_named n A s u w x a d = ⊎_elim (λ h. h) (λ h. absurd (both_ways (u.domains x a.0) (d a.0) (w.named x a.0 h a.1))) (cases_Bool (A.names x))

-- a named domain was empty or missing at the start
pub passed_still : (n : ℕ) (A : Demand) (s : TableState) (r : Shrunk) (x : ℕ) → Empty (has (set_of r).word) → has_failed r ≡ true → A.names x ≡ true → Dead s.domains x → Passed n A s r s
passed_still n A s r x none f nx dead = record {
  narrows = (sofar-none n A s (set_of r) none).narrows;
  shrunk = (sofar-none n A s (set_of r) none).shrunk;
  still = λ y k d. refl;
  empty = λ e. (x, nx, dead);
  full = λ e. absurd (both_ways (has_failed r) e f);
  stops = λ y z a d. absurd (not_both s.domains y a d);
  stable = λ z full. absurd (not_both s.domains x (full x nx) dead);
}

-- it emptied the domain of x, and stopped
pub passed_empty : (n : ℕ) (A : Demand) (s : TableState) (r : Shrunk) (u : TableState) (x : ℕ) → Sofar n A s (set_of r) u → Living A s.domains → has_failed r ≡ true → A.names x ≡ true → Dead u.domains x
    → ((y : ℕ) → A.names y ≡ true → (y ≡ x → ⊥) → Alive u.domains y) → Passed n A s r u
passed_empty n A s r u x so living f nx dead others = record {
  narrows = so.narrows;
  shrunk = so.shrunk;
  still = λ y k d. absurd (not_both s.domains y (living y k) d);
  empty = λ e. (x, nx, dead);
  full = λ e. absurd (both_ways (has_failed r) e f);
  stops = λ y z ay dy az dz. only y ay dy ∙ sym (only z az dz);
  stable = λ z full. absurd (not_both u.domains x (full x nx) dead);
}
  where
    only : (y : ℕ) → Alive s.domains y → Dead u.domains y → y ≡ x
    only y a d = ⊎_elim (λ q. q) (λ q. absurd (not_both u.domains y (others y (emptied_named n A s u so.narrows y a d) q) d)) (cases_eq y x)

-- no domain is empty
pub passed_full : (n : ℕ) (A : Demand) (s : TableState) (r : Shrunk) (u : TableState) → Sofar n A s (set_of r) u → Living A s.domains → has_failed r ≡ false → Living A u.domains
    → (Empty (has (set_of r).word) → A.stable u.domains ≡ true) → Passed n A s r u
passed_full n A s r u so living f full st = record {
  narrows = so.narrows;
  shrunk = so.shrunk;
  still = λ y k d. absurd (not_both s.domains y (living y k) d);
  empty = λ e. absurd (both_ways (has_failed r) f e);
  full = λ e. full;
  stops = λ y z a d. absurd (not_both u.domains y (full y (emptied_named n A s u so.narrows y a d)) d);
  stable = λ z k. st z;
}
