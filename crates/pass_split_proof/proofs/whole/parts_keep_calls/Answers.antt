use Rattle.pass_split_proof.proofs.whole.Runs.{calls_kept}
use Rattle.pass_split_proof.proofs.whole.parts_keep_calls.Goals as goal

pub returns : goal.returns
returns c = calls_kept
