-- Opening a search, and entering its space.
use Rattle.std.proofs.Common.{◌≡◌, ℕ, ◌<◌, ◌≤◌, true, false, List, [], ◌∷◌, Ok, sym, refl, ap, subst, true≢false}
use Rattle.tree.specs.Filter.{Bounded, Node}
use Rattle.tree.specs.Search.{Rule}
use Rattle.tables.specs.States.{Within}
use Rattle.spaces.specs.Pile.{SpaceState, piled, Standing}
use Rattle.spaces.specs.Calls.{enters, Enters}
use Rattle.search.specs.Choosing.{ruling}
use Rattle.search.specs.Sessions.{has_session, view, Sits, Sound, Begun}
use Rattle.search.specs.declared.search.Search.{Search}
use Rattle.search.specs.declared.search.Session.TheVariants.{Closed, Fresh}

-- without a node no choice stands
pub no_choices : (s : SpaceState) → Standing s s.pile → s.pile ≡ [] → s.choices ≡ []
no_choices s o e = subst (Standing s) e o

module _ {P R : Type 0} (means : P → SpaceState) (sound : P → Type 0) (picks : R → ℕ → ℕ → Rule) where
  pub fresh_sound : (x : P) (r : R) → sound x → Sound means sound picks (record { space = x; rule = r; session = Closed })
  fresh_sound x r o = record { part = o; sits = record { way = tt; deep = λ k. absurd (true≢false (sym k)); ready = λ k. absurd (true≢false (sym k)) } }

  pub begun : (a : Search P R) (q : P) (u : Unit {0}) → has_session a.session ≡ false → (means a.space).problem.variables ≤ (means a.space).depth → Within (means a.space).variables (means a.space).problem.width (means a.space).base → sound q → Enters (means a.space) (means q) (Ok u) →
      Begun (view means picks a) (view means picks (record { space = q; rule = a.rule; session = Fresh })) × Sound means sound picks (record { space = q; rule = a.rule; session = Fresh })
  begun a q u idle deep within o en = go (means a.space).pile refl en
    where
      go : (p : List Node) → (means a.space).pile ≡ p → enters (means a.space) p (means q) (Ok u) →
          Begun (view means picks a) (view means picks (record { space = q; rule = a.rule; session = Fresh })) × Sound means sound picks (record { space = q; rule = a.rule; session = Fresh })
      go (N ∷ p) e f = absurd f
      go [] e (ready, room, puts) =
          let s = means a.space in
          let b : Search P R = record { space = q; rule = a.rule; session = Fresh } in
          let is : means q ≡ piled s (puts.0 ∷ []) [] = puts.2 in
          let bd : Bounded s.problem s.base = λ x v k. (subst (λ (n : ℕ). x < n) ready.variables (within x v k).0, (within x v k).1) in
          let enter : Enters s (means q) (Ok tt) = subst (λ (p : List Node). enters s p (means q) (Ok tt)) (sym e) (ready, room, puts) in
          let same : ruling (means q) (picks a.rule) ≡ ruling s (picks a.rule) = ap (λ (x : SpaceState). ruling x (picks a.rule)) is in
          let sits : Sits (view means picks b) = subst (λ (x : SpaceState). Sits (record { session = true; fresh = true; space = x; rule = ruling x (picks a.rule) })) (sym is) (record { way = ((s.base, bd, puts.1), tt); deep = λ k. deep; ready = λ k. ready.variables }) in (
            record {
              idle = idle;
              deep = deep;
              enters = enter;
              opened = ap (λ (r : Rule). record { session = true; fresh = true; space = means q; rule = r }) same;
            },
            record { part = o; sits = sits },
          )
