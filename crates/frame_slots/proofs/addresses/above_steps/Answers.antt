use Rattle.std.proofs.Common.{arith, get_or, subst}
use Rattle.flow_solver.specs.Paths.{HasNodes}
use Rattle.rule_slots.proofs.flow_facts.Above.{nodes-more}
use Rattle.rule_slots.proofs.flow_facts.Points.{read-again, take-all}
use Rattle.frame_slots.proofs.addresses.above_steps.Goals as goal

pub loop-from-preserved : goal.loop-from-preserved
loop-from-preserved c =
    record {
      steps = nodes-more c.loop-from.count c.in_ok-count.count c.args.steps.now c.loop-from.from-index (get_or c.args.steps.now c.loop-from.from-index (0, 0)) c.loop-from-test.true (read-again c.args.steps.now c.loop-from.from-index (0, 0) c.loop-from-test.true)
          (omega arith) (omega arith) (omega arith) c.loop-from.invariant.steps;
      least = omega arith;
    }

pub returns-clause-steps : goal.returns-clause-steps
returns-clause-steps c = subst (HasNodes c.loop-from.count) (take-all c.args.steps.now c.loop-from.from-index (let le = c.loop-from-test.false in omega (arith, le))) c.loop-from.invariant.steps
