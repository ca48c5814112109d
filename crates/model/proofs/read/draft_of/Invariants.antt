use Rattle.std.proofs.Common.{◌≡◌, ℕ, ◌+◌, ◌-◌, ◌<◌, ◌≤◌, length, get_or, drop}
use Rattle.model.specs.Drafted.{drafted}
use Rattle.model.specs.Reading.{read_model, read_rest}
use Rattle.model.proofs.read.draft_of.Given as goal

-- what is left gives the outcome, with fuel enough
abbrev pub invariant-loop-at : goal.invariant-loop-at
invariant-loop-at l = record {
  within : l.at ≤ length l.bytes;
  bytes : (i : ℕ) → get_or l.bytes i 0 < 256;
  fuel : ℕ;
  enough : length l.bytes ≤ fuel + l.at;
  same : read_model l.bytes ≡ read_rest fuel (drafted l.draft) l.at (drop l.at l.bytes);
}

abbrev pub decreases-loop-at : goal.decreases-loop-at
decreases-loop-at l = length l.bytes - l.at
