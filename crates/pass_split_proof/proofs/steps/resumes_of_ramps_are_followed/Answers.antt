use Rattle.pass_split_proof.proofs.steps.Resuming.{ramp_followed, stays_followed}
use Rattle.pass_split_proof.proofs.steps.resumes_of_ramps_are_followed.Goals as goal

pub returns-clause-ramp : goal.returns-clause-ramp
returns-clause-ramp c = ramp_followed

pub returns-clause-stays : goal.returns-clause-stays
returns-clause-stays c = stays_followed
