use Rattle.pass_split_proof.proofs.ready.Steps.{calls_followable}
use Rattle.pass_split_proof.proofs.ready.followable_modules_keep_calls.Goals as goal

pub returns : goal.returns
returns c = calls_followable
