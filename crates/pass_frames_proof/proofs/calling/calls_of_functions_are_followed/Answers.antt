use Rattle.pass_frames_proof.proofs.calling.Calls.{calls_followed, other_calls_followed}
use Rattle.pass_frames_proof.proofs.calling.calls_of_functions_are_followed.Goals as goal

pub returns-clause-coroutines : goal.returns-clause-coroutines
returns-clause-coroutines c = calls_followed

pub returns-clause-others : goal.returns-clause-others
returns-clause-others c = other_calls_followed
