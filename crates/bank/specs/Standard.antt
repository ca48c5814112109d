-- What the kinds of this release ask of each record. Assumes nothing.
use Rattle.std.specs.Prelude.{◌≡◌, ℕ}
use Rattle.model.specs.Values.{Record, at_most, different}
use Rattle.kinds.specs.Demands.{Demands, demand_of, with_kind, no_demands}
use Rattle.atmost.specs.Linear.{stable as stable-sum, meets as meets-sum}
use Rattle.different.specs.Different.{stable as stable-different, meets as meets-different}

-- By the record's kind.
abbrev pub standard : Demands
standard w (at_most bound terms) = demand_of stable-sum meets-sum w (at_most bound terms)
standard w (different xs) = demand_of stable-different meets-different w (different xs)

-- The two kinds in a bank have every record: none is left without a demand.
abbrev pub EveryRecordHasItsKind : Type 0
EveryRecordHasItsKind = (w : ℕ) (q : Record) → with_kind 2 stable-sum meets-sum (with_kind 3 stable-different meets-different no_demands) w q ≡ standard w q
