use Rattle.std.proofs.Common.{◌≡◌, length}
use Rattle.run_step.specs.Step.{fits_params}
use Rattle.run_step_code.proofs.call.fits_params.Given as goal

abbrev pub invariant-loop-given : goal.invariant-loop-given
invariant-loop-given l = fits_params l.args l.params ≡ fits_params l.given l.wanted

abbrev pub decreases-loop-given : goal.decreases-loop-given
decreases-loop-given l = length l.given
