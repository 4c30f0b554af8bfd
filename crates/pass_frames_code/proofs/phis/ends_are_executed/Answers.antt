use Rattle.pass_frames_code.proofs.phis.Rows.{ends}
use Rattle.pass_frames_code.proofs.phis.ends_are_executed.Goals as goal

pub returns : goal.returns
returns c = ends
