use Rattle.rule_slots.proofs.Bounds.{nodes_step}
use Rattle.rule_slots.proofs.steps.are_within.Goals as goal

pub loop-step-preserved : goal.loop-step-preserved
loop-step-preserved c = nodes_step c.args.nodes c.args.steps.now c.loop-step.step-index _ c.loop-step-test.true c.if-step-nodes.false c.if-step-nodes-2.false c.loop-step.invariant
