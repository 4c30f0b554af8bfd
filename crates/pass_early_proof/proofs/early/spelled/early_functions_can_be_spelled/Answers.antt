use Rattle.pass_early_proof.proofs.early.spelled.Early.{early_spelled}
use Rattle.pass_early_proof.proofs.early.spelled.early_functions_can_be_spelled.Goals as goal

pub returns : goal.returns
returns c = early_spelled
