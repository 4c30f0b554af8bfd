use Rattle.pass_early_proof.proofs.early.elision.early.Laws.{sites_of_source}
use Rattle.pass_early_proof.proofs.early.elision.early.sites_stay.Goals as goal

pub returns : goal.returns
returns c = sites_of_source
