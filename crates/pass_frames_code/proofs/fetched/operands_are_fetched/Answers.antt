use Rattle.pass_frames_code.proofs.fetched.Runs.{fetched}
use Rattle.pass_frames_code.proofs.fetched.operands_are_fetched.Goals as goal

pub returns : goal.returns
returns c = fetched
