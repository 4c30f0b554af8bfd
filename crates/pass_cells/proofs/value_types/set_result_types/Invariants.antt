use Rattle.std.proofs.Common.{◌≡◌, drop}
use Rattle.pass_cells.specs.Kept.{with_result_types}
use Rattle.pass_cells.proofs.value_types.set_result_types.Given as goal

abbrev pub invariant-loop-instr : goal.invariant-loop-instr
invariant-loop-instr l = with_result_types l.places l.types (drop l.instr-index l.instrs) ≡ with_result_types l.places l.initial.types l.instrs
