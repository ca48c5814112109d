-- A scan of the domains finds the preferred variable.
use Rattle.std.proofs.Common.{◌≡◌, ℕ, zero, suc, ◌+◌, ◌-◌, ◌<◌, ◌≤◌, Bool, true, false, ltb, ◌⊎◌, List, [], ◌∷◌, length, Some, None, Ok, Err, Option, sym, refl, ap, ◌∙◌, subst, inl, inr, ⊎_elim, arith}
use Rattle.std.proofs.lemmas.Bool.{and_from, both_ways, cases_Bool, cond-true, cond-false, ltb-true, ltb-false, lt-ltb, le-ltb, eqb-true}
use Rattle.tree.specs.Tables.{Table}
use Rattle.tree.specs.Filter.{Node, failed, table}
use Rattle.tree.specs.Domains.{size, has_some}
use Rattle.tree.specs.Find.{is_full}
use Rattle.tree.specs.Rules.{smaller, smallest}
use Rattle.tree.proofs.Domains.{has_some_from, size-one, size-has}
use Rattle.tree.proofs.Exists.{is_full_from, is_full_to}
use Rattle.tables.specs.States.{Within}
use Rattle.spaces.proofs.Singles.{stands-bounded}
use Rattle.spaces.proofs.Stand.{stands_settled}
use Rattle.spaces.specs.Pile.{SpaceState, Laws, Standing}
use Rattle.spaces.specs.Calls.{Sizes, of_top, Sized}
use Rattle.spaces.specs.declared.space.SpaceFault.{SpaceFault}
use Rattle.search.specs.Choosing.{at_top, among, best_of, open_at, open_on, Prefers, replaces, settles}
use Rattle.search.specs.declared.rule.Preference.{Preference}
use Rattle.search.specs.declared.rule.Preference.TheVariants.{Lowest, Smallest}

-- of y and a variable above it, if there is one, the preferred
abbrev put : Preference → ℕ → Table → ℕ → Option ℕ → ℕ
put Lowest w T y o = y
put Smallest w T y o = smaller w T y o

abbrev merged : Preference → ℕ → Table → Option (ℕ × ℕ) → Option ℕ → Option ℕ
merged p w T None o = o
merged p w T (Some b) o = Some (put p w T b.0 o)

abbrev pub variable : Option (ℕ × ℕ) → Option ℕ
variable None = None
variable (Some b) = Some b.0

-- the size of an open variable stands beside it
abbrev SizedBest : ℕ → Table → Option (ℕ × ℕ) → Type 0
SizedBest w T None = Unit {0}
SizedBest w T (Some b) = (b.1 ≡ size (T b.0) w) × (1 < b.1)

-- after the first x variables
pub record Scanned (p : Preference) (n w : ℕ) (T : Table) (x : ℕ) (best : Option (ℕ × ℕ)) : Type 0 where
  pub full : is_full x w T ≡ true
  pub found : among p w T 0 n ≡ merged p w T best (among p w T x (n - x))
  pub wide : SizedBest w T best

abbrev scanned_on : Preference → ℕ → ℕ → Table → List Node → ℕ → Option (ℕ × ℕ) → Type 0
scanned_on p n w base [] x b = Scanned p n w base x b
scanned_on p n w base (failed ∷ q) x b = b ≡ None
scanned_on p n w base (table T ∷ q) x b = Scanned p n w T x b

abbrev pub ScannedOn : SpaceState → Preference → ℕ → Option (ℕ × ℕ) → Type 0
ScannedOn s p x b = scanned_on p s.problem.variables s.problem.width s.base s.pile x b

either : (a b : ℕ) → (a < b) ⊎ (b ≤ a)
either a b = ⊎_elim (λ e. inl (ltb-true a b e)) (λ e. inr (ltb-false a b e)) (cases_Bool (ltb a b))

module _ (w : ℕ) (T : Table) where
  abbrev len : ℕ → ℕ
  len x = size (T x) w

  over : (y z : ℕ) → len z < len y → smaller w T y (Some z) ≡ z
  over y z l = cond-true (ltb (len z) (len y)) z y (lt-ltb (len z) (len y) l)

  under : (y z : ℕ) → len y ≤ len z → smaller w T y (Some z) ≡ y
  under y z l = cond-false (ltb (len z) (len y)) z y (le-ltb (len z) (len y) l)

  -- three variables are put against each other from either side
  three : (x y z : ℕ) → (len z < len x) ⊎ (len x ≤ len z) → (len x < len y) ⊎ (len y ≤ len x) → smaller w T y (Some (smaller w T x (Some z))) ≡ smaller w T (smaller w T y (Some x)) (Some z)
  three x y z (inl zx) (inl xy) =
      ap (λ (u : ℕ). smaller w T y (Some u)) (over x z zx) ∙ over y z (omega arith)
      ∙ sym (ap (λ (u : ℕ). smaller w T u (Some z)) (over y x xy) ∙ over x z zx)
  three x y z (inl zx) (inr yx) =
      ap (λ (u : ℕ). smaller w T y (Some u)) (over x z zx) ∙ sym (ap (λ (u : ℕ). smaller w T u (Some z)) (under y x yx))
  three x y z (inr xz) (inl xy) =
      ap (λ (u : ℕ). smaller w T y (Some u)) (under x z xz) ∙ over y x xy
      ∙ sym (ap (λ (u : ℕ). smaller w T u (Some z)) (over y x xy) ∙ under x z xz)
  three x y z (inr xz) (inr yx) =
      ap (λ (u : ℕ). smaller w T y (Some u)) (under x z xz) ∙ under y x yx
      ∙ sym (ap (λ (u : ℕ). smaller w T u (Some z)) (under y x yx) ∙ under y z (omega arith))

  put-put : (p : Preference) (x y : ℕ) (o : Option ℕ) → put p w T y (Some (put p w T x o)) ≡ put p w T (put p w T y (Some x)) o
  put-put Lowest x y o = refl
  put-put Smallest x y None = refl
  put-put Smallest x y (Some z) = three x y z (either (len z) (len x)) (either (len x) (len y))

  among_open : (p : Preference) (x k : ℕ) → 1 < len x → among p w T x (suc k) ≡ Some (put p w T x (among p w T (suc x) k))
  among_open Lowest x k l = cond-true (ltb 1 (len x)) _ _ (lt-ltb 1 (len x) l)
  among_open Smallest x k l = cond-true (ltb 1 (len x)) _ _ (lt-ltb 1 (len x) l)

  among_closed : (p : Preference) (x k : ℕ) → len x ≤ 1 → among p w T x (suc k) ≡ among p w T (suc x) k
  among_closed Lowest x k l = cond-false (ltb 1 (len x)) _ _ (le-ltb 1 (len x) l)
  among_closed Smallest x k l = cond-false (ltb 1 (len x)) _ _ (le-ltb 1 (len x) l)

  among_none : (p : Preference) (x k : ℕ) → k ≡ 0 → among p w T x k ≡ None
  among_none Lowest x k e = ap (λ (i : ℕ). among Lowest w T x i) e
  among_none Smallest x k e = ap (λ (i : ℕ). among Smallest w T x i) e

  full_more : (x : ℕ) → is_full x w T ≡ true → 0 < len x → is_full (x + 1) w T ≡ true
  full_more x f l =
      let e : suc x ≡ x + 1 = omega arith in
      let t = size-one (T x) w l in
      subst (λ (y : ℕ). is_full y w T ≡ true) e (and_from (has_some (T x) w) (is_full x w T) (has_some_from (T x) w t.0 t.1 t.2) f)

  -- one variable more
  module _ (p : Preference) (n x k : ℕ) (b : Option (ℕ × ℕ)) (l : x < n) (e : k ≡ len x) (some : 0 < k) (s : Scanned p n w T x b) where
    abbrev later : Option ℕ
    later = among p w T (x + 1) (n - (x + 1))

    grows : is_full (x + 1) w T ≡ true
    grows = full_more x s.full (omega arith)

    next : (f : ℕ → ℕ → Option ℕ) → f x (n - x) ≡ f x (suc (n - (x + 1)))
    next f = let q : n - x ≡ suc (n - (x + 1)) = omega arith in ap (f x) q

    above : (f : ℕ → ℕ → Option ℕ) → f (suc x) (n - (x + 1)) ≡ f (x + 1) (n - (x + 1))
    above f = let q : suc x ≡ x + 1 = omega arith in ap (λ (y : ℕ). f y (n - (x + 1))) q

    if_closed : k ≤ 1 → among p w T x (n - x) ≡ later
    if_closed c = next (among p w T) ∙ among_closed p x (n - (x + 1)) (omega arith) ∙ above (among p w T)

    if_open : 1 < k → among p w T x (n - x) ≡ Some (put p w T x later)
    if_open o = next (among p w T) ∙ among_open p x (n - (x + 1)) (omega arith) ∙ ap (λ (q : Option ℕ). Some (put p w T x q)) (above (among p w T))

    pub closed_more : k ≤ 1 → Scanned p n w T (x + 1) b
    closed_more c = record { full = grows; found = s.found ∙ ap (merged p w T b) (if_closed c); wide = s.wide }

    -- the new one against the best one
    wins : (p : Preference) (c : ℕ × ℕ) → SizedBest w T (Some c) → replaces p (Some c) k ≡ true → put p w T c.0 (Some x) ≡ x
    wins Lowest c h r = absurd (both_ways false refl r)
    wins Smallest c h r = let q = ltb-true k c.1 r in over c.0 x (omega (arith, h.0))

    loses : (p : Preference) (c : ℕ × ℕ) → SizedBest w T (Some c) → replaces p (Some c) k ≡ false → put p w T c.0 (Some x) ≡ c.0
    loses Lowest c h r = refl
    loses Smallest c h r = let q = ltb-false k c.1 r in under c.0 x (omega (arith, h.0))

    taken : (b : Option (ℕ × ℕ)) → SizedBest w T b → replaces p b k ≡ true → merged p w T b (Some (put p w T x later)) ≡ merged p w T (Some (x, k)) later
    taken None h r = refl
    taken (Some c) h r = ap Some (put-put p x c.0 later ∙ ap (λ (u : ℕ). put p w T u later) (wins p c h r))

    kept : (b : Option (ℕ × ℕ)) → SizedBest w T b → replaces p b k ≡ false → merged p w T b (Some (put p w T x later)) ≡ merged p w T b later
    kept None h r = absurd (both_ways true r refl)
    kept (Some c) h r = ap Some (put-put p x c.0 later ∙ ap (λ (u : ℕ). put p w T u later) (loses p c h r))

    pub taken_more : 1 < k → replaces p b k ≡ true → Scanned p n w T (x + 1) (Some (x, k))
    taken_more o r = record { full = grows; found = s.found ∙ ap (merged p w T b) (if_open o) ∙ taken b s.wide r; wide = (e, o) }

    pub kept_more : 1 < k → replaces p b k ≡ false → Scanned p n w T (x + 1) b
    kept_more o r = record { full = grows; found = s.found ∙ ap (merged p w T b) (if_open o) ∙ kept b s.wide r; wide = s.wide }

  -- before the first variable, and after the last
  begun : (p : Preference) (n : ℕ) → Scanned p n w T 0 None
  begun p n = let e : n ≡ n - 0 = omega arith in record { full = refl; found = ap (among p w T 0) e; wide = tt }

  merged-none : (p : Preference) (b : Option (ℕ × ℕ)) → merged p w T b None ≡ variable b
  merged-none p None = refl
  merged-none Lowest (Some c) = refl
  merged-none Smallest (Some c) = refl

  ended : (p : Preference) (n : ℕ) (b : Option (ℕ × ℕ)) → Scanned p n w T n b → variable b ≡ best_of p n w T
  ended p n b s =
      let z : n - n ≡ 0 = omega arith in
      sym (cond-true (is_full n w T) (among p w T 0 n) None s.full ∙ s.found ∙ ap (merged p w T b) (among_none p n (n - n) z) ∙ merged-none p b)

  -- the smallest open variable is open
  smallest_open : (x k z : ℕ) → smallest w T x k ≡ Some z → 1 < len z
  smallest_open x zero z e = absurd (let q : ◌≡◌ {A = ℕ} 0 1 = cc in omega arith)
  smallest_open x (suc k) z e = ⊎_elim
      (λ l. first (smallest w T (suc x) k) (λ y i. smallest_open (suc x) k y i) l (sym (among_open Smallest x k l) ∙ e))
      (λ l. smallest_open (suc x) k z (sym (among_closed Smallest x k l) ∙ e))
      (either 1 (len x))
    where
      first : (o : Option ℕ) → ((y : ℕ) → o ≡ Some y → 1 < len y) → 1 < len x → Some (smaller w T x o) ≡ Some z → 1 < len z
      first None h l i = let q : x ≡ z = cc in subst (λ (y : ℕ). 1 < len y) q l
      first (Some y) h l i = ⊎_elim
          (λ less. let q : y ≡ z = sym (over x y less) ∙ inner i in subst (λ (u : ℕ). 1 < len u) q (h y refl))
          (λ more. let q : x ≡ z = sym (under x y more) ∙ inner i in subst (λ (u : ℕ). 1 < len u) q l)
          (either (len y) (len x))
        where
          inner : Some (smaller w T x (Some y)) ≡ Some z → smaller w T x (Some y) ≡ z
          inner j = cc

  -- no later variable is preferred to it
  stays : (p : Preference) (run : Bool) (x k : ℕ) → k ≡ len x → settles p run k ≡ true → (y j : ℕ) → put p w T x (among p w T y j) ≡ x
  stays p false x k e h y j = absurd (both_ways false refl h)
  stays Lowest true x k e h y j = refl
  stays Smallest true x k e h y j = go (smallest w T y j) refl
    where
      go : (o : Option ℕ) → smallest w T y j ≡ o → smaller w T x o ≡ x
      go None i = refl
      go (Some z) i = under x z (omega (arith, e, eqb-true k 2 h, smallest_open y j z i))

  pub early : (p : Preference) (run : Bool) (n x k : ℕ) → Scanned p n w T (x + 1) (Some (x, k)) → settles p run k ≡ true → is_full n w T ≡ true → Some x ≡ best_of p n w T
  early p run n x k s h f = sym (cond-true (is_full n w T) (among p w T 0 n) None f ∙ s.found ∙ ap Some (stays p run x k s.wide.0 h (x + 1) (n - (x + 1))))

  opened : (b : Option (ℕ × ℕ)) → SizedBest w T b → open_at w T (variable b)
  opened None h = tt
  opened (Some c) h = omega (arith, h.0, h.1)

  -- an empty domain
  not_full : (n x : ℕ) → x < n → ((v : ℕ) → T x v ≡ true → ⊥) → is_full n w T ≡ false
  not_full n x l none = ⊎_elim (λ t. let h = is_full_to n w T t x l in absurd (none h.0 h.1)) (λ f. f) (cases_Bool (is_full n w T))

  none-best : (p : Preference) (n x : ℕ) → x < n → ((v : ℕ) → T x v ≡ true → ⊥) → None ≡ best_of p n w T
  none-best p n x l none = sym (cond-false (is_full n w T) (among p w T 0 n) None (not_full n x l none))

  unsized : (m x : ℕ) (e : SpaceFault) → Within m w T → Sized m w x T (Err e) → (v : ℕ) → T x v ≡ true → ⊥
  unsized m x e inside h v t = let i = inside x v t in omega (arith, h.0, i.0)

  sized-none : (m x k : ℕ) → Within m w T → k ≡ 0 → Sized m w x T (Ok k) → (v : ℕ) → T x v ≡ true → ⊥
  sized-none m x k inside z h v t = let c = size-has (T x) w v (inside x v t).1 t in omega (arith, h.1, z, c)

-- the table on top, or the base, has the space's variables and values
module _ (s : SpaceState) (laws : Laws s) where
  abbrev n : ℕ
  n = s.problem.variables

  abbrev w : ℕ
  w = s.problem.width

  abbrev m : ℕ
  m = s.variables

  pub top_within : (T : Table) (q : List Node) → Standing s (table T ∷ q) → Within m w T
  top_within T q h x v t = let b = stands-bounded s.problem T q s.choices h.1 x v t in (omega (arith, b.0, h.0.variables), b.1)

  abbrev On : Preference → List Node → Option ℕ → Type 0
  On p q r = (r ≡ at_top (best_of p n w) s.base q) × open_on w s.base q r

  refused_by : (p : Preference) (q : List Node) (x : ℕ) (e : SpaceFault) → Standing s q → x < n → of_top s.base q (Sized m w x) (Err e) → On p q None
  refused_by p [] x e h l r = (none-best w s.base p n x l (unsized w s.base m x e laws.base r), tt)
  refused_by p (failed ∷ q) x e h l r = (refl, refl)
  refused_by p (table T ∷ q) x e h l r = (none-best w T p n x l (unsized w T m x e (top_within T q h) r), tt)

  empty_by : (p : Preference) (q : List Node) (x k : ℕ) → Standing s q → x < n → k ≡ 0 → of_top s.base q (Sized m w x) (Ok k) → On p q None
  empty_by p [] x k h l z r = (none-best w s.base p n x l (sized-none w s.base m x k laws.base z r), tt)
  empty_by p (failed ∷ q) x k h l z r = absurd r
  empty_by p (table T ∷ q) x k h l z r = (none-best w T p n x l (sized-none w T m x k (top_within T q h) z r), tt)

  pub refused : (p : Preference) (x : ℕ) (e : SpaceFault) → x < n → Sizes s x (Err e) → Prefers s p None
  refused p x e l r = refused_by p s.pile x e laws.standing l r

  pub empty : (p : Preference) (x k : ℕ) → x < n → k ≡ 0 → Sizes s x (Ok k) → Prefers s p None
  empty p x k l z r = empty_by p s.pile x k laws.standing l z r

never_settles : (p : Preference) (k : ℕ) → settles p false k ≡ false
never_settles Lowest k = refl
never_settles Smallest k = refl

module _ (s : SpaceState) (p : Preference) where
  abbrev vars : ℕ
  vars = s.problem.variables

  abbrev wide : ℕ
  wide = s.problem.width

  begun_on : (q : List Node) → scanned_on p vars wide s.base q 0 None
  begun_on [] = begun wide s.base p vars
  begun_on (failed ∷ q) = refl
  begun_on (table T ∷ q) = begun wide T p vars

  pub scan_begins : ScannedOn s p 0 None
  scan_begins = begun_on s.pile

  ended_on : (q : List Node) (b : Option (ℕ × ℕ)) → scanned_on p vars wide s.base q vars b → (variable b ≡ at_top (best_of p vars wide) s.base q) × open_on wide s.base q (variable b)
  ended_on [] b h = (ended wide s.base p vars b h, opened wide s.base b h.wide)
  ended_on (failed ∷ q) b h = (ap variable h, ap variable h)
  ended_on (table T ∷ q) b h = (ended wide T p vars b h, opened wide T b h.wide)

  pub scan-ends : (x : ℕ) (b : Option (ℕ × ℕ)) → x ≡ vars → ScannedOn s p x b → Prefers s p (variable b)
  scan-ends x b e h = ended_on s.pile b (subst (λ (y : ℕ). scanned_on p vars wide s.base s.pile y b) e h)

  module _ (x k : ℕ) (b : Option (ℕ × ℕ)) (l : x < vars) (some : 0 < k) where
    more_on : (c : Option (ℕ × ℕ)) → ((T : Table) → k ≡ size (T x) wide → Scanned p vars wide T x b → Scanned p vars wide T (x + 1) c) → (q : List Node) → of_top s.base q (Sized s.variables wide x) (Ok k) → scanned_on p vars wide s.base q x b → scanned_on p vars wide s.base q (x + 1) c
    more_on c f [] r h = f s.base r.1 h
    more_on c f (failed ∷ q) r h = absurd r
    more_on c f (table T ∷ q) r h = f T r.1 h

    pub scan_closed : k ≤ 1 → Sizes s x (Ok k) → ScannedOn s p x b → ScannedOn s p (x + 1) b
    scan_closed c r h = more_on b (λ T e i. closed_more wide T p vars x k b l e some i c) s.pile r h

    pub scan-taken : 1 < k → replaces p b k ≡ true → Sizes s x (Ok k) → ScannedOn s p x b → ScannedOn s p (x + 1) (Some (x, k))
    scan-taken o t r h = more_on (Some (x, k)) (λ T e i. taken_more wide T p vars x k b l e some i o t) s.pile r h

    -- in a run the scan may end here
    early_on : (run : Bool) (q : List Node) → (run ≡ true → 0 < length q) → Laws s → Standing s q → settles p run k ≡ true → scanned_on p vars wide s.base q (x + 1) (Some (x, k)) → (Some x ≡ at_top (best_of p vars wide) s.base q) × open_on wide s.base q (Some x)
    early_on false q runs laws st t h = absurd (both_ways false refl (sym (never_settles p k) ∙ t))
    early_on true [] runs laws st t h = absurd (omega (arith, runs refl))
    early_on true (failed ∷ q) runs laws st t h = absurd (let z : ◌≡◌ {A = ℕ} 0 1 = cc in omega arith)
    early_on true (table T ∷ q) runs laws st t h =
        let sd = stands_settled s.problem (table T) q s.choices st.1 in
        let f = is_full_from vars wide T (λ y b. let v = sd.full y b in (v.0, (sd.bounded y v.0 v.1).1, v.1)) in
        (early wide T p true vars x k h t f, opened wide T (Some (x, k)) h.wide)

    pub scan-settles : (run : Bool) → (run ≡ true → 0 < length s.pile) → Laws s → settles p run k ≡ true → 1 < k → replaces p b k ≡ true → Sizes s x (Ok k) → ScannedOn s p x b → Prefers s p (Some x)
    scan-settles run runs laws t o e r h = early_on run s.pile runs laws laws.standing t (scan-taken o e r h)

    pub scan-kept : 1 < k → replaces p b k ≡ false → Sizes s x (Ok k) → ScannedOn s p x b → ScannedOn s p (x + 1) b
    scan-kept o t r h = more_on b (λ T e i. kept_more wide T p vars x k b l e some i o t) s.pile r h
