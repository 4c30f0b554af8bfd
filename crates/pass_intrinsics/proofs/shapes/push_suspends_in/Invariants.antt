use Rattle.std.proofs.Common.{◌≡◌, ◌++◌, ◌∷◌, drop, take, map, filter, length, ◌-◌, ◌+◌}
use Rattle.pass_intrinsics.specs.Shapes.{with_suspends_in}
use Rattle.pass_intrinsics.proofs.shapes.push_suspends_in.Given as goal

abbrev pub invariant-loop-instr : goal.invariant-loop-instr
invariant-loop-instr l = with_suspends_in l.all l.block (drop l.instr-index l.instrs) ≡ with_suspends_in l.initial.all l.block l.instrs
