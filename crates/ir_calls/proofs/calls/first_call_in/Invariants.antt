use Rattle.std.proofs.Common.{◌≡◌, drop}
use Rattle.ir_calls.specs.Calls.{first_call_in}
use Rattle.ir_calls.proofs.calls.first_call_in.Given as goal

abbrev pub invariant-loop-instr : goal.invariant-loop-instr
invariant-loop-instr l = first_call_in l.intrinsic l.instrs ≡ first_call_in l.intrinsic (drop l.instr-index l.instrs)
