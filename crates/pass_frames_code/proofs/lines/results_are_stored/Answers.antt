use Rattle.pass_frames_code.proofs.lines.Results.{result_stored}
use Rattle.pass_frames_code.proofs.lines.results_are_stored.Goals as goal

pub returns : goal.returns
returns c = result_stored
