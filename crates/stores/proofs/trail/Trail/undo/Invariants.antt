use Rattle.std.proofs.Common.{◌≡◌, ◌-◌}
use Rattle.stores.specs.Entries.{undone, span}
use Rattle.stores.specs.Trails.{front, ButRow}
use Rattle.stores.proofs.trail.Trail.undo.Given as goal

-- what is left to undo leads from here to where all of it leads from the start
abbrev pub invariant-loop-last : goal.invariant-loop-last
invariant-loop-last l = record {
  left : undone (span l.initial.self.entries.now l.from (l.last - l.from)) (front l.self) ≡ undone (span l.initial.self.entries.now l.from (l.initial.self.used - l.from)) (front l.initial.self);
  rest : ButRow l.initial.self l.self;
}
