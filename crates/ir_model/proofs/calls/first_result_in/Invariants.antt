use Rattle.std.proofs.Common.{◌≡◌, drop}
use Rattle.ir_model.specs.Calls.{first_result_in}
use Rattle.ir_model.proofs.calls.first_result_in.Given as goal

abbrev pub invariant-loop-instr : goal.invariant-loop-instr
invariant-loop-instr l = first_result_in l.intrinsic l.instrs ≡ first_result_in l.intrinsic (drop l.instr-index l.instrs)
