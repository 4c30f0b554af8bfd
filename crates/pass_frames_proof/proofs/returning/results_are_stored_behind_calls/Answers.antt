use Rattle.pass_frames_proof.proofs.returning.Results.{result_given}
use Rattle.pass_frames_proof.proofs.returning.results_are_stored_behind_calls.Goals as goal

pub returns : goal.returns
returns c = result_given
