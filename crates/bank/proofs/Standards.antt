-- Each record of the standard bank has its kind. Assumes nothing.
use Rattle.std.proofs.Common.{◌≡◌, ℕ, Some, None, Option, refl}
use Rattle.model.specs.Values.{Record, at_most, different}
use Rattle.kinds.specs.Demands.{with_kind, no_demands, demanded}
use Rattle.atmost.specs.Linear.{stable as stable-sum, meets as meets-sum}
use Rattle.different.specs.Different.{stable as stable-different, meets as meets-different}
use Rattle.bank.specs.Standard.{standard, EveryRecordHasItsKind}

pub every_record : EveryRecordHasItsKind
every_record w (at_most bound terms) = refl
every_record w (different xs) = refl

pub standard-demanded : (w : ℕ) (o : Option Record) → demanded (with_kind 2 stable-sum meets-sum (with_kind 3 stable-different meets-different no_demands)) w o ≡ demanded standard w o
standard-demanded w None = refl
standard-demanded w (Some q) = every_record w q
