use Rattle.pass_early_proof.proofs.early.sources.Accepted.{accepted_agree}
use Rattle.pass_early_proof.proofs.early.sources.accepted_sources_keep_meaning.Goals as goal

pub returns : goal.returns
returns c = accepted_agree
