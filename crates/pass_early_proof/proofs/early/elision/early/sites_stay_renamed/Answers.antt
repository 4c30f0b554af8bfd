use Rattle.pass_early_proof.proofs.early.elision.early.Laws.{sites_renamed}
use Rattle.pass_early_proof.proofs.early.elision.early.sites_stay_renamed.Goals as goal

pub returns : goal.returns
returns c = sites_renamed
