use Rattle.pass_frames_code.proofs.givens.Runs.{given_runs}
use Rattle.pass_frames_code.proofs.givens.runs_are_given.Goals as goal

pub returns : goal.returns
returns c = given_runs
