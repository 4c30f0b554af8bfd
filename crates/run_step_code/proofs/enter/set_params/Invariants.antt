use Rattle.std.proofs.Common.{◌≡◌, length}
use Rattle.run_step.specs.Step.{with_params}
use Rattle.run_step_code.proofs.enter.set_params.Given as goal

abbrev pub invariant-loop-left : goal.invariant-loop-left
invariant-loop-left l = with_params l.initial.values l.params l.args ≡ with_params l.values l.left l.given

abbrev pub decreases-loop-left : goal.decreases-loop-left
decreases-loop-left l = length l.left
