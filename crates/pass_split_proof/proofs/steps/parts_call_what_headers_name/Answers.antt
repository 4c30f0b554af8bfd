use Rattle.pass_split_proof.proofs.steps.Calling.{destroy_calls, resume_calls}
use Rattle.pass_split_proof.proofs.steps.parts_call_what_headers_name.Goals as goal

pub returns-clause-resume : goal.returns-clause-resume
returns-clause-resume c = resume_calls

pub returns-clause-destroy : goal.returns-clause-destroy
returns-clause-destroy c = destroy_calls
