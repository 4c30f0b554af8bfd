use Rattle.pass_frames_code.proofs.entry.Params.{params_stored}
use Rattle.pass_frames_code.proofs.entry.parameters_are_stored.Goals as goal

pub returns : goal.returns
returns c = params_stored
