use Rattle.pass_early_proof.proofs.early.widths.Headings.{early_names}
use Rattle.pass_early_proof.proofs.early.widths.early_modules_have_the_same_names.Goals as goal

pub returns : goal.returns
returns c = early_names
