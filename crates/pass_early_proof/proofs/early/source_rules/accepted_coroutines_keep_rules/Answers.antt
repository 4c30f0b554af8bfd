use Rattle.pass_early_proof.proofs.early.source_rules.Accepted.{all_keep}
use Rattle.pass_early_proof.proofs.early.source_rules.accepted_coroutines_keep_rules.Goals as goal

pub returns : goal.returns
returns c = all_keep
