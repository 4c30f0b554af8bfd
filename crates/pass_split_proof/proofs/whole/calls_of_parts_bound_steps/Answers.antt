use Rattle.pass_split_proof.proofs.whole.Runs.{calls_agree}
use Rattle.pass_split_proof.proofs.whole.calls_of_parts_bound_steps.Goals as goal

pub returns : goal.returns
returns c = calls_agree
