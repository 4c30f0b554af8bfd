use Rattle.pass_early_proof.proofs.early.widths.Headings.{early_signatures}
use Rattle.pass_early_proof.proofs.early.widths.early_modules_have_the_same_signatures.Goals as goal

pub returns : goal.returns
returns c = early_signatures
