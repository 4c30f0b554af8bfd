use Rattle.pass_early_proof.proofs.early.elision.early.Laws.{sites_named}
use Rattle.pass_early_proof.proofs.early.elision.early.sites_stay_named.Goals as goal

pub returns : goal.returns
returns c = sites_named
