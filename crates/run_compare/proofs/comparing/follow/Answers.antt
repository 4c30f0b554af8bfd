use Rattle.run_compare.proofs.Steps.{not_come, plain_next}
use Rattle.run_plain.specs.Machines.{run_of}
use Rattle.run_compare.proofs.comparing.follow.Goals as goal

pub loop-steps-preserved : goal.loop-steps-preserved
loop-steps-preserved c =
    let r = run_of c.args.lowered.now in
    let s = run_of c.loop-steps.lowered in
    let n = c.loop-steps.steps in (
      plain_next r s (run_of c.has_come.new.lowered) (run_of c.step.new.self) n c.loop-steps.invariant.0
          c.in_ok-has_come.ensures.stays c.in_ok-step.ensures.done,
      not_come c.args.events c.args.returned r s n c.loop-steps.invariant.0 _ c.if-branch.false
          c.in_ok-has_come.ensures.come c.loop-steps.invariant.1,
    )
