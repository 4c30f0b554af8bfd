use Rattle.pass_early_proof.proofs.early.meaning.Composition.{early_agrees}
use Rattle.pass_early_proof.proofs.early.meaning.early_keeps_meaning.Goals as goal

pub returns : goal.returns
returns c = early_agrees
