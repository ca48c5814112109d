-- What a constraint record asks of tables and of values. Assumes nothing.
use Rattle.std.specs.Prelude.{ℕ, Bool, true, false, cond, List, Some, None, Option, ◌==◌}
use Rattle.tree.specs.Tables.{Table}
use Rattle.model.specs.Values.{Record, at_most, different, names}
use Rattle.model.specs.Reading.{among}

-- The number of a record's kind.
abbrev pub kind_of_record : Record → ℕ
kind_of_record (at_most bound terms) = 2
kind_of_record (different xs) = 3

-- The variables that a record names, when a table is stable for it (no pass could take a value away), and when values, one for
-- each variable, meet it.
pub record Demand : Type 0 where
  pub names : ℕ → Bool
  pub stable : Table → Bool
  pub meets : List ℕ → Bool

-- The demand of what is no record: none.
abbrev pub nothing : Demand
nothing = record { names = λ x. false; stable = λ T. true; meets = λ a. true }

-- When a table of values below a width is stable for a record, and when values meet a record.
abbrev pub Stable : Type 0
Stable = ℕ → Record → Table → Bool

abbrev pub Meets : Type 0
Meets = Record → List ℕ → Bool

-- The demand of each record, of values below a width.
abbrev pub Demands : Type 0
Demands = ℕ → Record → Demand

abbrev pub demand_of : Stable → Meets → Demands
demand_of stable meets w q = record { names = λ x. among x (names q); stable = stable w q; meets = meets q }

-- With a kind of the number k in front: it has the records of that number.
abbrev pub with_kind : ℕ → Stable → Meets → Demands → Demands
with_kind k stable meets others w q = cond (kind_of_record q == k) (demand_of stable meets w q) (others w q)

-- Kinds that ask nothing of any record.
abbrev pub no_demands : Demands
no_demands w q = nothing

-- The demand of the record that there is, or of none.
abbrev pub demanded : Demands → ℕ → Option Record → Demand
demanded D w (Some q) = D w q
demanded D w None = nothing
