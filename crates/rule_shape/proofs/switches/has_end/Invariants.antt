use Rattle.std.proofs.Common.{◌≡◌, drop}
use Rattle.std.specs.List.{list_any}
use Rattle.ir_model.specs.declared.operand.Intrinsic.{Intrinsic}
use Rattle.rule_windows.specs.ir_paths.Windows.{is_call_of}
use Rattle.rule_shape.proofs.switches.has_end.Given as goal

abbrev pub invariant-loop-instr : goal.invariant-loop-instr
invariant-loop-instr l = list_any (is_call_of Intrinsic.CoroEnd) l.instrs ≡ list_any (is_call_of Intrinsic.CoroEnd) (drop l.instr-index l.instrs)
