-- From the preferred variable to the rule's answer.
use Rattle.std.proofs.Common.{◌≡◌, ℕ, ◌<◌, Bool, true, false, cond, List, [], ◌∷◌, Some, None, Ok, Err, Option, Result, sym, refl, ap, ◌∙◌, ⊎_elim, arith}
use Rattle.std.proofs.lemmas.Bool.{both_ways, cases_eq}
use Rattle.bits.specs.Bit.{Least, Greatest}
use Rattle.tree.specs.Tables.{Table}
use Rattle.tree.specs.Filter.{Node, failed, table}
use Rattle.tree.specs.Domains.{size, least, greatest}
use Rattle.tree.specs.Find.{is_full}
use Rattle.tree.specs.Rules.{paired}
use Rattle.tree.proofs.Domains.{size-one, least-bottom, greatest-top}
use Rattle.tables.specs.States.{Within}
use Rattle.spaces.specs.Pile.{SpaceState, Laws, Standing}
use Rattle.spaces.specs.Calls.{of_top, Lowest as Bottom, Highest as Top}
use Rattle.spaces.specs.declared.space.SpaceFault.{SpaceFault}
use Rattle.search.specs.Choosing.{at_top, chosen, rule, among, best_of, open_on, Prefers, Tried}
use Rattle.search.specs.declared.rule.Preference.{Preference}
use Rattle.search.specs.declared.rule.Preference.TheVariants.{Lowest, Smallest}
use Rattle.search.proofs.Preferring.{top_within}

-- the value that is tried first: the least with the lowest variable, the greatest with the smallest
abbrev value : Preference → ℕ → Table → ℕ → ℕ
value Lowest w T x = least (T x) 0 w
value Smallest w T x = greatest (T x) w

abbrev Extreme : Preference → (ℕ → Bool) → Option ℕ → Type 0
Extreme Lowest = Least
Extreme Smallest = Greatest

abbrev Ends : Preference → ℕ → ℕ → Table → Result (Option ℕ) SpaceFault → Type 0
Ends Lowest = Bottom
Ends Smallest = Top

abbrev Asked : SpaceState → Preference → ℕ → Result (Option ℕ) SpaceFault → Type 0
Asked s p x r = of_top s.base s.pile (Ends p s.variables x) r

asked : (s : SpaceState) (p : Preference) (x : ℕ) (r : Result (Option ℕ) SpaceFault) → Tried s p x r → Asked s p x r
asked s Lowest x r h = h
asked s Smallest x r h = h

pair_cond : (b : Bool) (f : ℕ → ℕ) (o : Option ℕ) → cond b (paired f o) None ≡ paired f (cond b o None)
pair_cond true f o = refl
pair_cond false f o = refl

rule-is : (p : Preference) (n w : ℕ) (T : Table) → rule p n w T ≡ paired (value p w T) (best_of p n w T)
rule-is Lowest n w T = pair_cond (is_full n w T) (value Lowest w T) (among Lowest w T 0 n)
rule-is Smallest n w T = pair_cond (is_full n w T) (value Smallest w T) (among Smallest w T 0 n)

module _ (m w : ℕ) (T : Table) (inside : Within m w T) where
  bottom : (x v : ℕ) → Least (T x) (Some v) → v ≡ least (T x) 0 w
  bottom x v h =
      let b = least-bottom (T x) 0 w v (omega arith) (omega (arith, (inside x v h.0).1)) h.0 in
      ⊎_elim (λ e. e) (λ ne. absurd (both_ways (T x (least (T x) 0 w)) (h.1 (least (T x) 0 w) (omega (arith, ne, b.1))) b.0)) (cases_eq v (least (T x) 0 w))

  top : (x v : ℕ) → Greatest (T x) (Some v) → v ≡ greatest (T x) w
  top x v h =
      let b = greatest-top (T x) w v (inside x v h.0).1 h.0 in
      ⊎_elim (λ e. e) (λ ne. absurd (both_ways (T x (greatest (T x) w)) (h.1 (greatest (T x) w) (omega (arith, ne, b.2))) b.0)) (cases_eq v (greatest (T x) w))

  answer : (p : Preference) (n x v : ℕ) → Some x ≡ best_of p n w T → Ends p m x T (Ok (Some v)) → Some (x, v) ≡ rule p n w T
  answer Lowest n x v e h = ap (λ (u : ℕ). Some (x, u)) (bottom x v h.1) ∙ ap (paired (value Lowest w T)) e ∙ sym (rule-is Lowest n w T)
  answer Smallest n x v e h = ap (λ (u : ℕ). Some (x, u)) (top x v h.1) ∙ ap (paired (value Smallest w T)) e ∙ sym (rule-is Smallest n w T)

  none : (p : Preference) (x : ℕ) → 1 < size (T x) w → Ends p m x T (Ok None) → ⊥
  none Lowest x o h = let t = size-one (T x) w (omega arith) in both_ways (T x t.0) (h.1 t.0) t.2
  none Smallest x o h = let t = size-one (T x) w (omega arith) in both_ways (T x t.0) (h.1 t.0) t.2

  fault : (p : Preference) (x : ℕ) (e : SpaceFault) → 1 < size (T x) w → Ends p m x T (Err e) → ⊥
  fault Lowest x e o h = let t = size-one (T x) w (omega arith) in omega (arith, h.0, (inside x t.0 t.2).0)
  fault Smallest x e o h = let t = size-one (T x) w (omega arith) in omega (arith, h.0, (inside x t.0 t.2).0)

some-none : (x : ℕ) → ◌≡◌ {A = Option ℕ} (Some x) None → ⊥
some-none x e = let z : ◌≡◌ {A = ℕ} 1 0 = cc in omega arith

module _ (s : SpaceState) (p : Preference) where
  abbrev n : ℕ
  n = s.problem.variables

  abbrev w : ℕ
  w = s.problem.width

  abbrev On : List Node → Option ℕ → Type 0
  On q r = (r ≡ at_top (best_of p n w) s.base q) × open_on w s.base q r

  none_on : (q : List Node) → On q None → None ≡ at_top (rule p n w) s.base q
  none_on [] h = ap (paired (value p w s.base)) h.0 ∙ sym (rule-is p n w s.base)
  none_on (failed ∷ q) h = refl
  none_on (table T ∷ q) h = ap (paired (value p w T)) h.0 ∙ sym (rule-is p n w T)

  pub chose_none : Prefers s p None → None ≡ chosen s (rule p)
  chose_none h = none_on s.pile h

  module _ (laws : Laws s) (x : ℕ) where
    some_on : (q : List Node) (v : ℕ) → Standing s q → On q (Some x) → of_top s.base q (Ends p s.variables x) (Ok (Some v)) → Some (x, v) ≡ at_top (rule p n w) s.base q
    some_on [] v st h r = answer s.variables w s.base laws.base p n x v h.0 r
    some_on (failed ∷ q) v st h r = absurd (some-none x h.1)
    some_on (table T ∷ q) v st h r = answer s.variables w T (top_within s laws T q st) p n x v h.0 r

    not_none_on : (q : List Node) → Standing s q → On q (Some x) → of_top s.base q (Ends p s.variables x) (Ok None) → ⊥
    not_none_on [] st h r = none s.variables w s.base laws.base p x h.1 r
    not_none_on (failed ∷ q) st h r = some-none x h.1
    not_none_on (table T ∷ q) st h r = none s.variables w T (top_within s laws T q st) p x h.1 r

    not_fault_on : (q : List Node) (e : SpaceFault) → Standing s q → On q (Some x) → of_top s.base q (Ends p s.variables x) (Err e) → ⊥
    not_fault_on [] e st h r = fault s.variables w s.base laws.base p x e h.1 r
    not_fault_on (failed ∷ q) e st h r = some-none x h.1
    not_fault_on (table T ∷ q) e st h r = fault s.variables w T (top_within s laws T q st) p x e h.1 r

    pub chose : (v : ℕ) → Prefers s p (Some x) → Tried s p x (Ok (Some v)) → Some (x, v) ≡ chosen s (rule p)
    chose v h r = some_on s.pile v laws.standing h (asked s p x (Ok (Some v)) r)

    pub never_none : Prefers s p (Some x) → Tried s p x (Ok None) → ⊥
    never_none h r = not_none_on s.pile laws.standing h (asked s p x (Ok None) r)

    pub never_fault : (e : SpaceFault) → Prefers s p (Some x) → Tried s p x (Err e) → ⊥
    never_fault e h r = not_fault_on s.pile e laws.standing h (asked s p x (Err e) r)
