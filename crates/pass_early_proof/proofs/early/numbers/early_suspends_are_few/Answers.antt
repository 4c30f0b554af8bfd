use Rattle.pass_early_proof.proofs.early.numbers.Small.{early_few}
use Rattle.pass_early_proof.proofs.early.numbers.early_suspends_are_few.Goals as goal

pub returns : goal.returns
returns c = early_few
