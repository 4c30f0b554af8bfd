use Rattle.pass_split_proof.proofs.held.Runs.{suspended_held}
use Rattle.pass_split_proof.proofs.held.suspended_instances_are_held.Goals as goal

pub returns : goal.returns
returns c = suspended_held
