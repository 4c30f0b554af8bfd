use Rattle.std.proofs.Common.{◌≡◌, ◌++◌, drop, flat_map, true}
use Rattle.flow_facts.specs.Slots.{outside_if}
use Rattle.flow_facts.proofs.behind.push_outside.Given as goal

abbrev pub invariant-loop-point : goal.invariant-loop-point
invariant-loop-point l = l.all ++ flat_map (outside_if l.function true) (drop l.point-index l.points) ≡ l.initial.all ++ flat_map (outside_if l.function true) l.points
