use Rattle.pass_frames_code.proofs.lines.Filled.{over_joined}
use Rattle.pass_frames_code.proofs.lines.lines_run_on.Goals as goal

pub returns : goal.returns
returns c = over_joined
