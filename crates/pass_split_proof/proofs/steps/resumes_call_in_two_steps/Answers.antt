use Rattle.pass_split_proof.proofs.steps.Resuming.{staying}
use Rattle.pass_split_proof.proofs.steps.resumes_call_in_two_steps.Goals as goal

pub returns : goal.returns
returns c = staying
