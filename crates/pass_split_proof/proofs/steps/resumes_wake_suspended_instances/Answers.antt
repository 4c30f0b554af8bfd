use Rattle.pass_split_proof.proofs.steps.Woken.{destroy_goes, resume_goes}
use Rattle.pass_split_proof.proofs.steps.resumes_wake_suspended_instances.Goals as goal

pub returns-clause-resume : goal.returns-clause-resume
returns-clause-resume c = resume_goes

pub returns-clause-destroy : goal.returns-clause-destroy
returns-clause-destroy c = destroy_goes
