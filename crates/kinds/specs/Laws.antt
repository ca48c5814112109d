-- The laws of kinds that tell of tables and values alone. Those of a pass are its contract. Assumes nothing.
use Rattle.std.specs.Prelude.{◌≡◌, ℕ, ◌<◌, ◌≤◌, true, List, length}
use Rattle.tree.specs.Tables.{Table, join, single}
use Rattle.model.specs.Values.{Record, names}
use Rattle.model.specs.Reading.{among}
use Rattle.tables.specs.States.{Within}
use Rattle.kinds.specs.Demands.{kind_of_record, Demand, Demands, Stable, Meets}

-- No domain of the n variables is empty or missing.
abbrev pub Filled : ℕ → Table → Type 0
Filled n T = (x : ℕ) → x < n → (v : ℕ) × (T x v ≡ true)

-- The record names some variables, few, and all of them below n, as every record of a model does.
pub record Named (n : ℕ) (q : Record) : Type 0 where
  pub some : 1 ≤ length (names q)
  pub few : length (names q) ≤ 64
  pub below : (x : ℕ) → among x (names q) ≡ true → x < n

-- Two stable tables joined, domain by domain, are stable.
abbrev pub Joins : ℕ → Stable → Type 0
Joins k stable =
    (n w : ℕ) (q : Record) → kind_of_record q ≡ k → Named n q → (S T : Table) → Within n w S → Within n w T → Filled n S → Filled n T →
    stable w q S ≡ true → stable w q T ≡ true → stable w q (join S T) ≡ true

-- Stability rests on the record's own domains alone.
abbrev pub Rests : ℕ → Stable → Type 0
Rests k stable =
    (w : ℕ) (q : Record) → kind_of_record q ≡ k → (S T : Table) → ((x v : ℕ) → among x (names q) ≡ true → S x v ≡ T x v) → stable w q S ≡ stable w q T

-- A table of single values is stable exactly when these values meet the record.
abbrev pub Singles : ℕ → Stable → Meets → Type 0
Singles k stable meets =
    (n w : ℕ) (q : Record) → kind_of_record q ≡ k → Named n q → (a : List ℕ) → Within n w (single a) → Filled n (single a) → stable w q (single a) ≡ meets q a

-- The same laws of the demand A of one record over n variables with values below w.
pub record KeepsLaws (n w : ℕ) (A : Demand) : Type 0 where
  pub joins : (S T : Table) → Within n w S → Within n w T → Filled n S → Filled n T → A.stable S ≡ true → A.stable T ≡ true → A.stable (join S T) ≡ true
  pub rests : (S T : Table) → ((x v : ℕ) → A.names x ≡ true → S x v ≡ T x v) → A.stable S ≡ A.stable T
  pub singles : (a : List ℕ) → Within n w (single a) → Filled n (single a) → A.stable (single a) ≡ A.meets a

-- Every record's demand keeps the laws, and names no variable that the record does not.
pub record LawfulKinds (D : Demands) : Type 0 where
  pub keeps : (n w : ℕ) (q : Record) → Named n q → KeepsLaws n w (D w q)
  pub names : (w : ℕ) (q : Record) (x : ℕ) → (D w q).names x ≡ true → among x (names q) ≡ true
