use Rattle.std.proofs.Common.{◌≡◌, drop}
use Rattle.std.specs.List.{list_all}
use Rattle.ir_parts.specs.Contents.{arg_operands}
use Rattle.rule_slots.specs.Early.{is_clear}
use Rattle.rule_slots.proofs.uses.args_are_clear.Given as goal

abbrev pub invariant-loop-arg : goal.invariant-loop-arg
invariant-loop-arg l = list_all (is_clear l.addresses) (arg_operands l.args) ≡ list_all (is_clear l.addresses) (arg_operands (drop l.arg-index l.args))
