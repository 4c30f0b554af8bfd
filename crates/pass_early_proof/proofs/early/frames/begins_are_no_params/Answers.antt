use Rattle.pass_early_proof.proofs.early.frames.NoParams.{accepted_apart}
use Rattle.pass_early_proof.proofs.early.frames.begins_are_no_params.Goals as goal

pub returns : goal.returns
returns c = accepted_apart
