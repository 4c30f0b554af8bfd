use Rattle.std.proofs.Common.{◌≡◌, drop}
use Rattle.rule_all.specs.Order.{functions_refusal}
use Rattle.rule_all.proofs.order.functions_refusal.Given as goal

abbrev pub invariant-loop-function : goal.invariant-loop-function
invariant-loop-function l = functions_refusal l.stage l.sizes.names.now.source.now l.faults 0 l.functions ≡ functions_refusal l.stage l.sizes.names.now.source.now l.faults l.func (drop l.function-index l.functions)
