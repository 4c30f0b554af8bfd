use Rattle.std.proofs.Common.{◌≡◌, ◌++◌, drop, map}
use Rattle.std.specs.List.{list_all}
use Rattle.ir_parts.specs.Contents.{arg_operands}
use Rattle.ir_parts.proofs.contents.args_pass.Given as goal

abbrev pub invariant-loop-arg : goal.invariant-loop-arg
invariant-loop-arg g l = list_all (g.T.OperandTest.operand_passes l.test) (arg_operands l.args) ≡ list_all (g.T.OperandTest.operand_passes l.test) (arg_operands (drop l.arg-index l.args))
