use Rattle.pass_early_proof.proofs.early.sources.Laid.{accepted_laid}
use Rattle.pass_early_proof.proofs.early.sources.accepted_layouts_stay.Goals as goal

pub returns : goal.returns
returns c = accepted_laid
