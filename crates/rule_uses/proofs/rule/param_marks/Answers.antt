use Rattle.std.proofs.Common.{length}
use Rattle.rule_uses.proofs.Finding.{param_step}
use Rattle.rule_uses.proofs.rule.param_marks.Goals as goal

pub loop-param-preserved : goal.loop-param-preserved
loop-param-preserved c = param_step (length c.args.function.now.names) c.loop-param.param-index c.args.function.now.params c.as_slice-param-items.result.now c.param-item.result c.loop-param.marks c.set.new.self c.as_slice-param-items.ensures c.loop-param-test.true c.param-item.is c.set.ensures c.loop-param.invariant
