use Rattle.std.proofs.Common.{◌≡◌, ◌++◌, ◌∷◌, drop, take, map, filter, length, ◌-◌, ◌+◌}
use Rattle.pass_intrinsics.specs.Shapes.{with_saves}
use Rattle.pass_intrinsics.proofs.shapes.set_saves.Given as goal

abbrev pub invariant-loop-point : goal.invariant-loop-point
invariant-loop-point l = with_saves l.table l.number (drop l.point-index l.suspends) ≡ with_saves l.initial.table 0 l.suspends
