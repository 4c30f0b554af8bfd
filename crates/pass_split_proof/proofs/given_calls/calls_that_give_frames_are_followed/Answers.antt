use Rattle.pass_split_proof.proofs.given_calls.Called.{given_call_followed, given_frame}
use Rattle.pass_split_proof.proofs.given_calls.calls_that_give_frames_are_followed.Goals as goal

pub returns-clause-steps : goal.returns-clause-steps
returns-clause-steps c = given_call_followed

pub returns-clause-given : goal.returns-clause-given
returns-clause-given c = given_frame
