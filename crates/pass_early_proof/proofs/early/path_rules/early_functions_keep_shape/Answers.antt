use Rattle.pass_early_proof.proofs.early.path_rules.Passes.{early_shape}
use Rattle.pass_early_proof.proofs.early.path_rules.early_functions_keep_shape.Goals as goal

pub returns : goal.returns
returns c = early_shape
