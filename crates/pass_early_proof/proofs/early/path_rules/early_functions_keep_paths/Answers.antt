use Rattle.pass_early_proof.proofs.early.path_rules.Passes.{early_paths}
use Rattle.pass_early_proof.proofs.early.path_rules.early_functions_keep_paths.Goals as goal

pub returns : goal.returns
returns c = early_paths
