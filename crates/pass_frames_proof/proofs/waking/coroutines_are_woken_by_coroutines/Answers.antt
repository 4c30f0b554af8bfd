use Rattle.pass_frames_proof.proofs.waking.Callers.{coroutine_destroy_entered, coroutine_destroy_followed, coroutine_resume_entered, coroutine_resume_followed}
use Rattle.pass_frames_proof.proofs.waking.coroutines_are_woken_by_coroutines.Goals as goal

pub returns-clause-resumes : goal.returns-clause-resumes
returns-clause-resumes c = coroutine_resume_followed

pub returns-clause-resumes_at_once : goal.returns-clause-resumes_at_once
returns-clause-resumes_at_once c = coroutine_resume_entered

pub returns-clause-destroys : goal.returns-clause-destroys
returns-clause-destroys c = coroutine_destroy_followed

pub returns-clause-destroys_at_once : goal.returns-clause-destroys_at_once
returns-clause-destroys_at_once c = coroutine_destroy_entered
