use Rattle.pass_split_proof.proofs.waking.Transferring.{resumes_followed}
use Rattle.pass_split_proof.proofs.waking.resumes_are_followed.Goals as goal

pub returns : goal.returns
returns c = resumes_followed
