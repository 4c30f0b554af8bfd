use Rattle.std.proofs.Common.{◌≡◌, ◌++◌, ◌∷◌, drop, take, map, filter, length, ◌-◌, ◌+◌}
use Rattle.pass_intrinsics.specs.Shapes.{has_end}
use Rattle.pass_intrinsics.proofs.shapes.has_end.Given as goal

abbrev pub invariant-loop-instr : goal.invariant-loop-instr
invariant-loop-instr l = has_end l.instrs ≡ has_end (drop l.instr-index l.instrs)
