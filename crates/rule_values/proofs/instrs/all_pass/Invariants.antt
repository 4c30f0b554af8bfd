use Rattle.std.proofs.Common.{◌≡◌, drop}
use Rattle.std.specs.List.{list_all}
use Rattle.ir_locals.specs.Tables.{noted}
use Rattle.rule_values.specs.Instrs.{passes}
use Rattle.rule_values.proofs.instrs.all_pass.Given as goal

abbrev pub invariant-loop-arg : goal.invariant-loop-arg
invariant-loop-arg l = list_all (passes (noted l.kinds) l.callee) l.args ≡ list_all (passes (noted l.kinds) l.callee) (drop l.arg-index l.args)
