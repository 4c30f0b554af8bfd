use Rattle.std.proofs.Common.{◌≡◌, ◌-◌}
use Rattle.pass_cells.specs.Links.{climbed}
use Rattle.pass_cells.proofs.climbing.climb.Given as goal

abbrev pub invariant-loop : goal.invariant-loop
invariant-loop l = climbed l.bases l.slots (l.turns - l.counter) l.marks l.at ≡ climbed l.bases l.slots l.turns l.initial.marks l.fn.start
