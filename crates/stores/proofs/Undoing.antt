-- What undoing entries does to cells, what a write, a mark and a restore leave to undo, and why the entries suffice.
use Rattle.std.proofs.Common.{◌≡◌, ℕ, zero, suc, ◌+◌, ◌-◌, ◌*◌, ◌<◌, ◌≤◌, true, false, cond, eqb, ◌≢◌, List, [], ◌∷◌, ◌++◌, length, get_or, set, sym, refl, ap, ◌∙◌, subst, inl, inr, ⊎_elim, mul-le-mul_left, mul-suc, arith, length-append, length-set, get_or-set_other, get_or-set_same, set-set, eq-eqb, ne_eqb}
use lib.Seq.{set_comm, set-get_or}
use native.Mathlib.Nat.{sub_self}
use Rattle.std.proofs.Math.ListN.{get_or-append}
use Rattle.std.proofs.Math.Seq.{get_or-append_seam}
use Rattle.arrayvec.specs.ArrayVec.{ArrayVec}
use Rattle.std.specs.Coded.{le_prop}
use Rattle.std.proofs.ByRecursion.{All-get_or, All-set, All-weaker}
use Rattle.std.proofs.lemmas.List.{length-map, length-take-le, get_or-take}
use Rattle.std.proofs.lemmas.Bool.{cases_eq}
use Rattle.stores.specs.declared.trail.Cell.{Cell}
use Rattle.stores.specs.declared.trail.Entry.{Entry}
use Rattle.stores.specs.declared.trail.Trail.{Trail}
use Rattle.stores.specs.Entries.{Within, blank, none, values, held, span, spans, undone, saved_rows, Names, stamped, Fine, Rising}
use Rattle.stores.specs.Trails.{TrailSound, trail_rows, front, standing}

length-undone : (s : List Entry) (cs : List Cell) → length (undone s cs) ≡ length cs
length-undone [] cs = refl
length-undone (e ∷ s) cs = length-undone s (set cs e.cell (held e)) ∙ length-set cs e.cell (held e)

length-saved_rows : (ss : List (List Entry)) (cs : List Cell) → length (saved_rows ss cs) ≡ length ss
length-saved_rows [] cs = refl
length-saved_rows (s ∷ ss) cs = ap suc (length-saved_rows ss (undone s cs))

length-span : (es : List Entry) (from k : ℕ) → length (span es from k) ≡ k
length-span es from zero = refl
length-span es from (suc k) = ap suc (length-span es from k)

length-spans : (es : List Entry) (starts : List ℕ) (m used : ℕ) → length (spans es starts m used) ≡ m
length-spans es starts zero used = refl
length-spans es starts (suc m) used = ap suc (length-spans es starts m (get_or starts m 0))

-- a later entry, or a later mark, is not among the earlier ones
span_set : (es : List Entry) (from k u : ℕ) (e : Entry) → from + k ≤ u → span (set es u e) from k ≡ span es from k
span_set es from zero u e le = refl
span_set es from (suc k) u e le =
    let ne : from + k ≢ u = omega arith in
    let a : get_or (set es u e) (from + k) none ≡ get_or es (from + k) none = get_or-set_other es u (from + k) e none ne in
    let b = span_set es from k u e (omega arith) in
    cc

spans-set : (es : List Entry) (starts : List ℕ) (m used u : ℕ) (e : Entry) → Rising starts m used → used ≤ u → spans (set es u e) starts m used ≡ spans es starts m used
spans-set es starts zero used u e r le = refl
spans-set es starts (suc m) used u e r le =
    let a = span_set es (get_or starts m 0) (used - get_or starts m 0) u e (omega (arith, r.0)) in
    let b = spans-set es starts m (get_or starts m 0) u e r.1 (omega (arith, r.0)) in
    cc

pub spans-append : (es : List Entry) (starts more : List ℕ) (m used : ℕ) → m ≤ length starts → spans es (starts ++ more) m used ≡ spans es starts m used
spans-append es starts more zero used le = refl
spans-append es starts more (suc m) used le =
    let a : get_or (starts ++ more) m 0 ≡ get_or starts m 0 = get_or-append starts more 0 m le in
    rw a (ap (λ (t : List (List Entry)). span es (get_or starts m 0) (used - get_or starts m 0) ∷ t) (spans-append es starts more m (get_or starts m 0) (omega arith)))

pub rising-append : (starts more : List ℕ) (m used : ℕ) → m ≤ length starts → Rising (starts ++ more) m used ≡ Rising starts m used
rising-append starts more zero used le = refl
rising-append starts more (suc m) used le =
    let a : get_or (starts ++ more) m 0 ≡ get_or starts m 0 = get_or-append starts more 0 m le in
    rw a (ap (λ (t : Type 0). (get_or starts m 0 ≤ used) × t) (rising-append starts more m (get_or starts m 0) (omega arith)))

-- one more entry
spans_push : (es : List Entry) (starts : List ℕ) (m used : ℕ) (e : Entry) → Rising starts (suc m) used → used < length es → spans (set es used e) starts (suc m) (used + 1) ≡ (e ∷ span es (get_or starts m 0) (used - get_or starts m 0)) ∷ spans es starts m (get_or starts m 0)
spans_push es starts m used e r lt =
    let from = get_or starts m 0 in
    let h : from ≤ used = r.0 in
    let a : used + 1 - from ≡ suc (used - from) = omega arith in
    let b : from + (used - from) ≡ used = omega arith in
    let p : get_or (set es used e) used none ≡ e = get_or-set_same es used e none lt in
    let q : get_or (set es used e) (from + (used - from)) none ≡ e = ap (λ (k : ℕ). get_or (set es used e) k none) b ∙ p in
    let s = span_set es from (used - from) used e (omega arith) in
    let t = spans-set es starts m from used e r.1 h in
    let w : span (set es used e) from (used + 1 - from) ≡ e ∷ span es from (used - from) = ap (span (set es used e) from) a ∙ cc in
    cc

-- what a cell holds is forgotten when an entry that names it is undone
forget : (s : List Entry) (cs : List Cell) (i : ℕ) (x : Cell) → Names s i → undone s (set cs i x) ≡ undone s cs
forget [] cs i x n = absurd n
forget (e ∷ s) cs i x n =
    ⊎_elim
    (λ (q : e.cell ≡ i). ap (undone s) (subst (λ (k : ℕ). set (set cs k x) e.cell (held e) ≡ set cs e.cell (held e)) q (set-set cs e.cell x (held e))))
    (λ (d : e.cell ≡ i → ⊥). ⊎_elim
    (λ (q : e.cell ≡ i). absurd (d q))
    (λ (m : Names s i). let ne : i ≢ e.cell = (λ q. d (sym q)) in ap (undone s) (set_comm cs i e.cell x (held e) ne) ∙ forget s (set cs e.cell (held e)) i x m)
    n)
    (cases_eq e.cell i)

stamped-most : (m : ℕ) (cs : List Cell) → stamped m cs ≤ length cs
stamped-most m [] = omega arith
stamped-most m (c ∷ cs) =
    let h = stamped-most m cs in
    elim (eqb c.stamp m) as (λ b. cond b 1 0 + stamped m cs ≤ suc (length cs)) [ true ↦ omega arith | false ↦ omega arith ]

-- a cell that gets the stamp m
stamped-set : (m : ℕ) (cs : List Cell) (i : ℕ) (x : Cell) → x.stamp ≡ m → stamped m cs ≤ stamped m (set cs i x)
stamped-set m [] i x q = omega arith
stamped-set m (c ∷ cs) zero x q =
    let t = eq-eqb x.stamp m q in
    let one : cond (eqb c.stamp m) 1 0 ≤ 1 = elim (eqb c.stamp m) as (λ b. cond b 1 0 ≤ 1) [ true ↦ omega arith | false ↦ omega arith ] in
    rw t (omega arith)
stamped-set m (c ∷ cs) (suc i) x q = omega (arith, stamped-set m cs i x q)

-- and had another before
stamped-set-new : (m : ℕ) (cs : List Cell) (i : ℕ) (x : Cell) → i < length cs → ((get_or cs i blank).stamp ≡ m → ⊥) → x.stamp ≡ m → stamped m cs < stamped m (set cs i x)
stamped-set-new m [] i x lt ne q = absurd (omega arith)
stamped-set-new m (c ∷ cs) zero x lt ne q =
    let t = eq-eqb x.stamp m q in
    let f = ne_eqb c.stamp m ne in
    rw (t, f) (omega arith)
stamped-set-new m (c ∷ cs) (suc i) x lt ne q = omega (arith, stamped-set-new m cs i x (omega arith) ne q)

stamped_less : (m : ℕ) (cs : List Cell) (i : ℕ) → i < length cs → ((get_or cs i blank).stamp ≡ m → ⊥) → stamped m cs < length cs
stamped_less m cs i lt ne =
    let x : Cell = record { value = 0; stamp = m } in
    omega (arith, stamped-set-new m cs i x lt ne refl, stamped-most m (set cs i x), length-set cs i x)

stamp_within : (m : ℕ) (cs : List Cell) (i : ℕ) → i < length cs → Within m cs → (get_or cs i blank).stamp ≤ m
stamp_within m cs i lt w = All-get_or (λ (c : Cell). c.stamp ≤ m) cs i blank lt w

within-set : (m : ℕ) (cs : List Cell) (i : ℕ) (x : Cell) → x.stamp ≡ m → Within m cs → Within m (set cs i x)
within-set m cs i x q w = All-set (λ (c : Cell). c.stamp ≤ m) cs i x (omega arith) w

within_more : (m : ℕ) (cs : List Cell) → Within m cs → Within (suc m) cs
within_more m cs w = All-weaker (λ (c : Cell). c.stamp ≤ m) (λ (c : Cell). c.stamp ≤ suc m) (λ c h. omega arith) cs w

-- what holds of every cell with stamp m, and of cell i, holds of every such cell after a write to cell i
stamped-each : (P : ℕ → Type 0) (m : ℕ) (cs : List Cell) (i : ℕ) (x : Cell) → P i → ((j : ℕ) → j < length cs → (get_or cs j blank).stamp ≡ m → P j) → (j : ℕ) → j < length (set cs i x) → (get_or (set cs i x) j blank).stamp ≡ m → P j
stamped-each P m cs i x p h j lt q =
    ⊎_elim
    (λ (a : j ≡ i). subst P (sym a) p)
    (λ (a : j ≡ i → ⊥).
    let e : get_or (set cs i x) j blank ≡ get_or cs j blank = get_or-set_other cs i j x blank a in
    h j (omega (arith, length-set cs i x)) (ap (λ (c : Cell). c.stamp) (sym e) ∙ q))
    (cases_eq j i)

-- a write to a cell that needs no entry
pub over : (ss : List (List Entry)) (cs : List Cell) (i : ℕ) (x : Cell) → i < length cs → (get_or cs i blank).stamp ≡ length ss → x.stamp ≡ length ss → Fine ss cs → (saved_rows ss (set cs i x) ≡ saved_rows ss cs) × Fine ss (set cs i x)
over [] cs i x lt q p f = (refl, within-set 0 cs i x p f)
over (s ∷ ss) cs i x lt q p f =
    let m = suc (length ss) in
    let n = f.0.kept i lt q in
    let e : undone s (set cs i x) ≡ undone s cs = forget s cs i x n in (
      rw e refl,
      (
        record {
          most = within-set m cs i x p f.0.most;
          kept = stamped-each (Names s) m cs i x n f.0.kept;
          few = omega (arith, f.0.few, stamped-set m cs i x p);
        },
        rw e f.1,
      ),
    )

-- a write that saves an entry first
push : (s : List Entry) (ss : List (List Entry)) (cs : List Cell) (i : ℕ) (x : Cell) (e : Entry) → i < length cs → ((get_or cs i blank).stamp ≡ suc (length ss) → ⊥) → x.stamp ≡ suc (length ss) → e.cell ≡ i → held e ≡ get_or cs i blank → Fine (s ∷ ss) cs → (saved_rows ((e ∷ s) ∷ ss) (set cs i x) ≡ saved_rows (s ∷ ss) cs) × Fine ((e ∷ s) ∷ ss) (set cs i x)
push s ss cs i x e lt ne p q g f =
    let m = suc (length ss) in
    let a : set (set cs i x) e.cell (held e) ≡ cs = rw (q, g) (set-set cs i x (get_or cs i blank) ∙ set-get_or cs i blank) in (
      rw a refl,
      (
        record {
          most = within-set m cs i x p f.0.most;
          kept = stamped-each (Names (e ∷ s)) m cs i x (inl q) (λ j h w. inr (f.0.kept j h w));
          few = omega (arith, f.0.few, stamped-set-new m cs i x lt ne p);
        },
        rw a f.1,
      ),
    )

pub saved : (es : List Entry) (starts : List ℕ) (m used : ℕ) (cs : List Cell) (i : ℕ) (x : Cell) (e : Entry) → i < length cs → used < length es → ((get_or cs i blank).stamp ≡ m → ⊥) → x.stamp ≡ m → e.cell ≡ i → held e ≡ get_or cs i blank → Rising starts m used → Fine (spans es starts m used) cs → (saved_rows (spans (set es used e) starts m (used + 1)) (set cs i x) ≡ saved_rows (spans es starts m used) cs) × Rising starts m (used + 1) × Fine (spans (set es used e) starts m (used + 1)) (set cs i x)
saved es starts zero used cs i x e lt room ne p q g r f = absurd (ne (omega (arith, stamp_within 0 cs i lt f)))
saved es starts (suc m) used cs i x e lt room ne p q g r f =
    let n = length-spans es starts m (get_or starts m 0) in
    let a = spans_push es starts m used e r room in
    let b = push (span es (get_or starts m 0) (used - get_or starts m 0)) (spans es starts m (get_or starts m 0)) cs i x e lt (λ w. ne (omega (arith, w))) (omega arith) q g f in
    let P : List (List Entry) → Type 0 = λ ss. (saved_rows ss (set cs i x) ≡ saved_rows (spans es starts (suc m) used) cs) × Fine ss (set cs i x) in
    let d : P (spans (set es used e) starts (suc m) (used + 1)) = subst P (sym a) b in
    (d.0, (omega (arith, r.0), r.1), d.1)

-- a mark: no cell has the new stamp yet
pub opened : (ss : List (List Entry)) (cs : List Cell) → Fine ss cs → Fine ([] ∷ ss) cs
opened ss cs f =
    let w : Within (length ss) cs = elim ss as (λ ss. Fine ss cs → Within (length ss) cs) [ [] ↦ λ f. f | s ∷ ss ↦ λ f. f.0.most ] f in
    (record { most = within_more (length ss) cs w; kept = λ i h q. absurd (omega (arith, stamp_within (length ss) cs i h w)); few = omega arith }, f)

-- one more mark, which begins where the entries in use end
pub spans-mark : (es : List Entry) (starts : List ℕ) (used : ℕ) → spans es (starts ++ used ∷ []) (length (starts ++ used ∷ [])) used ≡ [] ∷ spans es starts (length starts) used
spans-mark es starts used =
    let n : length (starts ++ used ∷ []) ≡ suc (length starts) = omega (arith, length-append starts (used ∷ [])) in
    let a : get_or (starts ++ used ∷ []) (length starts) 0 ≡ used = get_or-append_seam starts used [] 0 in
    rw n (rw a (rw sub_self (ap (λ (ss : List (List Entry)). [] ∷ ss) (spans-append es starts (used ∷ []) (length starts) used (omega arith)))))

pub rising-mark : (starts : List ℕ) (used : ℕ) → Rising starts (length starts) used → Rising (starts ++ used ∷ []) (length (starts ++ used ∷ [])) used
rising-mark starts used r =
    let n : length (starts ++ used ∷ []) ≡ suc (length starts) = omega (arith, length-append starts (used ∷ [])) in
    let a : get_or (starts ++ used ∷ []) (length starts) 0 ≡ used = get_or-append_seam starts used [] 0 in
    rw n (rw a (omega arith, rw (rising-append starts (used ∷ []) (length starts) used (omega arith)) r))

-- what a restore finds below the newest mark, which begins at `from`
pub record Below (es : List Entry) (starts rest : List ℕ) (from used : ℕ) (cs : List Cell) : Type 0 where
  pub saved : saved_rows (spans es starts (length starts) used) cs ≡ values (undone (span es from (used - from)) cs) ∷ saved_rows (spans es rest (length rest) from) (undone (span es from (used - from)) cs)
  pub rising : Rising rest (length rest) from
  pub fine : Fine (spans es rest (length rest) from) (undone (span es from (used - from)) cs)

pub below : (es : List Entry) (starts rest : List ℕ) (from used : ℕ) (cs : List Cell) → starts ≡ rest ++ from ∷ [] → Rising starts (length starts) used → Fine (spans es starts (length starts) used) cs → Below es starts rest from used cs
below es starts rest from used cs q r f =
    let n : length starts ≡ suc (length rest) = ap length q ∙ omega (arith, length-append rest (from ∷ [])) in
    let a : get_or starts (length rest) 0 ≡ from = ap (λ (xs : List ℕ). get_or xs (length rest) 0) q ∙ get_or-append_seam rest from [] 0 in
    let ss : spans es starts (length rest) from ≡ spans es rest (length rest) from = ap (λ (xs : List ℕ). spans es xs (length rest) from) q ∙ spans-append es rest (from ∷ []) (length rest) from (omega arith) in
    let rs : Rising starts (length rest) from ≡ Rising rest (length rest) from = ap (λ (xs : List ℕ). Rising xs (length rest) from) q ∙ rising-append rest (from ∷ []) (length rest) from (omega arith) in
    let all : spans es starts (length starts) used ≡ span es from (used - from) ∷ spans es rest (length rest) from = rw n (rw a (ap (λ (ss : List (List Entry)). span es from (used - from) ∷ ss) ss)) in
    let f' : Fine (span es from (used - from) ∷ spans es rest (length rest) from) cs = subst (λ (ss : List (List Entry)). Fine ss cs) all f in
    let r' : (from ≤ used) × Rising starts (length rest) from = rw a at (rw n at r) in
    record {
      saved = ap (λ (ss : List (List Entry)). saved_rows ss cs) all;
      rising = subst (λ (T : Type 0). T) rs r'.1;
      fine = f'.1;
    }

-- the entries of the newest mark are no more than the cells with its stamp
used-top : (es : List Entry) (starts : List ℕ) (m used : ℕ) (cs : List Cell) → Rising starts (suc m) used → Fine (spans es starts (suc m) used) cs → used ≤ get_or starts m 0 + stamped (suc m) cs
used-top es starts m used cs r f =
    let a = length-span es (get_or starts m 0) (used - get_or starts m 0) in
    let n = length-spans es starts m (get_or starts m 0) in
    let b = f.0.few in
    let d : length (span es (get_or starts m 0) (used - get_or starts m 0)) ≤ stamped (suc m) cs = rw n at b in
    omega (arith, r.0)

-- no more entries than cells at each mark
used-most : (es : List Entry) (starts : List ℕ) (m used : ℕ) (cs : List Cell) → Rising starts m used → Fine (spans es starts m used) cs → used ≤ length cs * m
used-most es starts zero used cs r f = omega (arith, r)
used-most es starts (suc m) used cs r f =
    let s = span es (get_or starts m 0) (used - get_or starts m 0) in
    let h = used-most es starts m (get_or starts m 0) (undone s cs) r.1 f.1 in
    let g : get_or starts m 0 ≤ length cs * m = rw length-undone at h in
    rw mul-suc (omega (arith, used-top es starts m used cs r f, stamped-most (suc m) cs))

-- and fewer while a cell has no entry at the newest mark
used_less : (es : List Entry) (starts : List ℕ) (m used : ℕ) (cs : List Cell) (i : ℕ) → i < length cs → ((get_or cs i blank).stamp ≡ m → ⊥) → Rising starts m used → Fine (spans es starts m used) cs → used < length cs * m
used_less es starts zero used cs i lt ne r f = absurd (ne (omega (arith, stamp_within 0 cs i lt f)))
used_less es starts (suc m) used cs i lt ne r f =
    let s = span es (get_or starts m 0) (used - get_or starts m 0) in
    let h = used-most es starts m (get_or starts m 0) (undone s cs) r.1 f.1 in
    let g : get_or starts m 0 ≤ length cs * m = rw length-undone at h in
    rw mul-suc (omega (arith, used-top es starts m used cs r f, stamped_less (suc m) cs i lt ne))

-- the row of a trail has its size, its saved rows are its marks, and the entries of a sound one suffice
pub length_front : (t : Trail) → length (front t) ≡ t.size
length_front t = length-take-le t.size t.cells.now t.row

pub length-row : (t : Trail) → length (trail_rows t).row ≡ t.size
length-row t = length-map (front t) (λ x. x.value) ∙ length_front t

pub length-standing : (t : Trail) → length (standing t) ≡ length t.starts.items
length-standing t = length-spans t.entries.now t.starts.items (length t.starts.items) t.used

pub marks_saved : (t : Trail) → length (trail_rows t).saved ≡ length t.starts.items
marks_saved t = length-saved_rows (standing t) (front t) ∙ length-standing t

pub room-left : (t : Trail) (i : ℕ) → TrailSound t → i < t.size → ((get_or t.cells.now i blank).stamp ≡ length t.starts.items → ⊥) → t.used < length t.entries.now
room-left t i s lt ne =
    let g : get_or (front t) i blank ≡ get_or t.cells.now i blank = get_or-take t.size t.cells.now i blank lt in
    let h = used_less t.entries.now t.starts.items (length t.starts.items) t.used (front t) i (omega (arith, length_front t)) (λ w. ne (ap (λ (c : Cell). c.stamp) (sym g) ∙ w)) s.rising s.fine in
    let k : t.used < t.size * length t.starts.items = rw (length_front t) at h in
    omega (arith, mul-le-mul_left t.size t.few, t.room)

-- what makes a trail sound beside what its type keeps
pub sound : (t : Trail) → Rising t.starts.items (length t.starts.items) t.used → Fine (standing t) (front t) → TrailSound t
sound t r f = record { cells = t.row; room = t.room; deep = t.deep; marks = t.few; rising = r; fine = f }

-- a trail is known by its fields
pub same : (t : Trail) (starts : ArrayVec ℕ) (row : t.size ≤ length t.cells.now) (room : t.size * t.depth ≤ length t.entries.now) (deep : t.depth ≤ 65) (few : length starts.items ≤ t.depth) (in_use : t.used ≤ length t.entries.now)
    (begun : (k : ℕ) → k < length starts.items → get_or starts.items k 0 ≤ length t.entries.now) → starts ≡ t.starts
    → record { cells = t.cells; entries = t.entries; size = t.size; depth = t.depth; used = t.used; starts = starts; row = row; room = room; deep = deep; few = few; in_use = in_use; begun = begun } ≡ t
same t starts row room deep few in_use begun q =
    let P : ArrayVec ℕ → Type 0 = λ v. (few : length v.items ≤ t.depth) (begun : (k : ℕ) → k < length v.items → get_or v.items k 0 ≤ length t.entries.now)
    → record { cells = t.cells; entries = t.entries; size = t.size; depth = t.depth; used = t.used; starts = v; row = row; room = room; deep = deep; few = few; in_use = in_use; begun = begun } ≡ t in
    subst P (sym q) (λ few begun i. record {
      cells = t.cells;
      entries = t.entries;
      size = t.size;
      depth = t.depth;
      used = t.used;
      starts = t.starts;
      row = le_prop row t.row i;
      room = le_prop room t.room i;
      deep = le_prop deep t.deep i;
      few = le_prop few t.few i;
      in_use = le_prop in_use t.in_use i;
      begun = λ k h. le_prop (begun k h) (t.begun k h) i;
    }) few begun
