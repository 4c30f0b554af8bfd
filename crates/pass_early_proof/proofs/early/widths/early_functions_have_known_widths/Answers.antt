use Rattle.pass_early_proof.proofs.early.widths.Widths.{early_widths}
use Rattle.pass_early_proof.proofs.early.widths.early_functions_have_known_widths.Goals as goal

pub returns : goal.returns
returns c = early_widths
