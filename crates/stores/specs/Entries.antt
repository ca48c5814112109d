-- What entries put back, and how stamps and the counts of entries tell which entries a mark has. It assumes nothing.
use Rattle.std.specs.Prelude.{◌≡◌, ℕ, zero, suc, ◌+◌, ◌-◌, ◌<◌, ◌≤◌, cond, ◌⊎◌, List, [], ◌∷◌, map, length, get_or, ◌==◌, slice_index, slice_index_or, slice_set}
use Rattle.std.specs.List.{AllByRecursion}
use Rattle.stores.specs.declared.trail.Cell.{Cell}
use Rattle.stores.specs.declared.trail.Entry.{Entry}

-- a cell as a trail is opened with it
abbrev pub blank : Cell
blank = record { value = 0; stamp = 0 }

abbrev pub values : List Cell → List ℕ
values = map (λ c. c.value)

-- the cell that an entry puts back
abbrev pub held : Entry → Cell
held e = record { value = e.value; stamp = e.stamp }

-- what stands for an entry past the last
abbrev pub none : Entry
none = record { cell = 0; value = 0; stamp = 0 }

-- the k entries from `from` on, newest first
abbrev pub span : List Entry → ℕ → ℕ → List Entry
span es from zero = []
span es from (suc k) = slice_index_or es (from + k) none ∷ span es from k

-- the entries of each of m marks, newest mark first: those of mark k begin at number k of `starts`, and `used` is where the last end
abbrev pub spans : List Entry → List ℕ → ℕ → ℕ → List (List Entry)
spans es starts zero used = []
spans es starts (suc m) used = span es (slice_index starts m) (used - slice_index starts m) ∷ spans es starts m (slice_index starts m)

-- the cells after the entries are undone, the first of them first
abbrev pub undone : List Entry → List Cell → List Cell
undone [] cs = cs
undone (e ∷ es) cs = undone es (slice_set cs e.cell (held e))

-- the rows that come back as one mark after another is undone
abbrev pub saved_rows : List (List Entry) → List Cell → List (List ℕ)
saved_rows [] cs = []
saved_rows (s ∷ ss) cs = values (undone s cs) ∷ saved_rows ss (undone s cs)

-- a cell is named by an entry
abbrev pub Names : List Entry → ℕ → Type 0
Names [] i = ⊥
Names (e ∷ es) i = (e.cell ≡ i) ⊎ Names es i

-- how many cells have the stamp m
abbrev pub stamped : ℕ → List Cell → ℕ
stamped m [] = 0
stamped m (c ∷ cs) = cond (c.stamp == m) 1 0 + stamped m cs

-- no stamp is past m
abbrev pub Within : ℕ → List Cell → Type 0
Within m = AllByRecursion (λ c. c.stamp ≤ m)

-- at m marks, with the entries s of the newest: no stamp is past m, each cell with stamp m has an entry to undo, and there are no more entries than such cells
pub record Stamps (m : ℕ) (s : List Entry) (cs : List Cell) : Type 0 where
  pub most : Within m cs
  pub kept : (i : ℕ) → i < length cs → (get_or cs i blank).stamp ≡ m → Names s i
  pub few : length s ≤ stamped m cs

-- the stamps are right now, and stay so as one mark after another is undone
abbrev pub Fine : List (List Entry) → List Cell → Type 0
Fine [] cs = Within 0 cs
Fine (s ∷ ss) cs = Stamps (suc (length ss)) s cs × Fine ss (undone s cs)

-- the counts of entries rise from mark to mark, from 0 to those in use
abbrev pub Rising : List ℕ → ℕ → ℕ → Type 0
Rising starts zero used = used ≡ 0
Rising starts (suc m) used = (slice_index starts m ≤ used) × Rising starts m (slice_index starts m)
