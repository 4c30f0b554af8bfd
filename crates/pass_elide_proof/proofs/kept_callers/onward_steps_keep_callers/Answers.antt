use Rattle.pass_elide_proof.proofs.CallersOnward.{goes_onward}
use Rattle.pass_elide_proof.proofs.kept_callers.onward_steps_keep_callers.Goals as goal

pub returns : goal.returns
returns c = goes_onward
