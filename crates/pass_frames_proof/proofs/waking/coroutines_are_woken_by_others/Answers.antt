use Rattle.pass_frames_proof.proofs.waking.Callers.{other_destroy_entered, other_destroy_followed, other_resume_entered, other_resume_followed}
use Rattle.pass_frames_proof.proofs.waking.coroutines_are_woken_by_others.Goals as goal

pub returns-clause-resumes : goal.returns-clause-resumes
returns-clause-resumes c = other_resume_followed

pub returns-clause-resumes_at_once : goal.returns-clause-resumes_at_once
returns-clause-resumes_at_once c = other_resume_entered

pub returns-clause-destroys : goal.returns-clause-destroys
returns-clause-destroys c = other_destroy_followed

pub returns-clause-destroys_at_once : goal.returns-clause-destroys_at_once
returns-clause-destroys_at_once c = other_destroy_entered
