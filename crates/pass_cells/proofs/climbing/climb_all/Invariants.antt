use Rattle.std.proofs.Common.{◌≡◌, drop}
use Rattle.pass_cells.specs.Links.{with_climbs}
use Rattle.pass_cells.proofs.climbing.climb_all.Given as goal

abbrev pub invariant-loop-value : goal.invariant-loop-value
invariant-loop-value l = with_climbs l.bases l.slots l.turns l.marks (drop l.value-index l.values) ≡ with_climbs l.bases l.slots l.turns l.initial.marks l.values
