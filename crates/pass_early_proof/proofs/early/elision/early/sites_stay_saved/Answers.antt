use Rattle.pass_early_proof.proofs.early.elision.early.Laws.{sites_saved}
use Rattle.pass_early_proof.proofs.early.elision.early.sites_stay_saved.Goals as goal

pub returns : goal.returns
returns c = sites_saved
