-- Sets that records are noted in.
use Rattle.std.proofs.Common.{◌≡◌, ℕ, ◌<◌, Bool, true, false, ◌&&◌, ◌||◌, eqb, List, [], ◌∷◌, length, get_or, set, sym, refl, ap, ◌∙◌, ap₂, ⊎_elim}
use Rattle.std.proofs.lemmas.List.{get_or-set_same, get_or-set_other}
use Rattle.std.proofs.lemmas.Bool.{eq-eqb, ne_eqb, cases_eq}
use Rattle.bits.specs.Bit.{has}
use Rattle.bits.specs.declared.Set.{Set}
use Rattle.model.specs.Drafts.{none}
use Rattle.model.specs.Reading.{among}

-- the set of x holds r, now or with the entries that are left
abbrev pub noted : List Set → ℕ → List ℕ → ℕ → ℕ → Bool
noted sets «record» rest x r = has (get_or sets x none).word r || (eqb r «record» && among x rest)

pub noted-next : (sets : List Set) (k : ℕ) (y : ℕ) (s : Set) (rest : List ℕ) → y < length sets → ((u : ℕ) → has s.word u ≡ (has (get_or sets y none).word u || eqb u k)) → (x r : ℕ) → noted (set sets y s) k rest x r ≡ noted sets k (y ∷ rest) x r
noted-next sets k y s rest lt h x r = ⊎_elim same other (cases_eq x y)
  where
    join : (a q b : Bool) → ((a || q) || (q && b)) ≡ (a || (q && true))
    join true q b = refl
    join false true b = refl
    join false false b = refl

    same : x ≡ y → noted (set sets y s) k rest x r ≡ noted sets k (y ∷ rest) x r
    same e =
        let g : get_or (set sets y s) x none ≡ s = ap (λ (i : ℕ). get_or (set sets y s) i none) e ∙ get_or-set_same sets y s none lt in
        let t : has (get_or (set sets y s) x none).word r ≡ (has (get_or sets x none).word r || eqb r k) = ap (λ (z : Set). has z.word r) g ∙ h r ∙ ap (λ (i : ℕ). has (get_or sets i none).word r || eqb r k) (sym e) in
        let q : eqb x y ≡ true = eq-eqb x y e in
        ap (λ (b : Bool). b || (eqb r k && among x rest)) t
        ∙ join (has (get_or sets x none).word r) (eqb r k) (among x rest)
        ∙ ap (λ (b : Bool). has (get_or sets x none).word r || (eqb r k && (b || among x rest))) (sym q)

    other : (x ≡ y → ⊥) → noted (set sets y s) k rest x r ≡ noted sets k (y ∷ rest) x r
    other ne =
        let g : get_or (set sets y s) x none ≡ get_or sets x none = get_or-set_other sets y x s none ne in
        ap₂ (λ (z : Set) (b : Bool). has z.word r || (eqb r k && (b || among x rest))) g (sym (ne_eqb x y ne))

pub noted-none : (sets : List Set) (k x r : ℕ) → noted sets k [] x r ≡ has (get_or sets x none).word r
noted-none sets k x r = go (has (get_or sets x none).word r) (eqb r k)
  where
    go : (a q : Bool) → (a || (q && false)) ≡ a
    go true q = refl
    go false true = refl
    go false false = refl
