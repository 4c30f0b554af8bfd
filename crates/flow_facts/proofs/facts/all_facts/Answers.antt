use Rattle.flow_facts.proofs.Having.{have-more}
use Rattle.flow_facts.proofs.facts.all_facts.Goals as goal

pub loop-function-preserved : goal.loop-function-preserved
loop-function-preserved c =
    have-more c.args.functions.now c.loop-function.function-index c.function-item.result c.loop-function.all c.push.new.self c.in_ok-facts_of.field-0 c.loop-function-test.true c.function-item.is c.in_ok-facts_of.ensures c.in_ok-push.ensures.ok c.loop-function.invariant
