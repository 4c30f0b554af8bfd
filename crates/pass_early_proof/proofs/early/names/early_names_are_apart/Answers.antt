use Rattle.pass_early_proof.proofs.early.names.Framed.{early_table}
use Rattle.pass_early_proof.proofs.early.names.early_names_are_apart.Goals as goal

pub returns : goal.returns
returns c = early_table
