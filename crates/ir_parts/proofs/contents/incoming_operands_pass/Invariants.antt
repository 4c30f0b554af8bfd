use Rattle.std.proofs.Common.{◌≡◌, ◌++◌, drop, map}
use Rattle.std.specs.List.{list_all}
use Rattle.ir_parts.proofs.contents.incoming_operands_pass.Given as goal

abbrev pub invariant-loop-one : goal.invariant-loop-one
invariant-loop-one g l = list_all (g.T.OperandTest.operand_passes l.test) (map (λ i. i.value) l.incoming) ≡ list_all (g.T.OperandTest.operand_passes l.test) (map (λ i. i.value) (drop l.one-index l.incoming))
