use Rattle.pass_early_proof.proofs.early.function_rules.Early.{all_kept}
use Rattle.pass_early_proof.proofs.early.function_rules.early_functions_keep_rules.Goals as goal

pub returns : goal.returns
returns c = all_kept
