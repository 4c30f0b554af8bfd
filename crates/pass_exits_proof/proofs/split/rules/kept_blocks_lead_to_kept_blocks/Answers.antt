use Rattle.pass_exits_proof.proofs.split.rules.Pruned.{kept_targets}
use Rattle.pass_exits_proof.proofs.split.rules.kept_blocks_lead_to_kept_blocks.Goals as goal

pub returns : goal.returns
returns c = kept_targets
