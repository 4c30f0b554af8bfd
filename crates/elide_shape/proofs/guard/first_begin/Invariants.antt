use Rattle.std.proofs.Common.{◌≡◌, drop}
use Rattle.std.specs.Prelude.{find}
use Rattle.ir_model.specs.declared.operand.Intrinsic.{Intrinsic}
use Rattle.ir_paths.specs.Windows.{is_call_of}
use Rattle.elide_shape.proofs.guard.first_begin.Given as goal

abbrev pub invariant-loop-instr : goal.invariant-loop-instr
invariant-loop-instr l = find (is_call_of Intrinsic.CoroBegin) (drop l.instr-index l.instrs) ≡ find (is_call_of Intrinsic.CoroBegin) l.instrs
