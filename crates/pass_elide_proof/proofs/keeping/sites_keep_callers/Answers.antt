use Rattle.pass_elide_proof.proofs.SiteCallers.{sites_keep}
use Rattle.pass_elide_proof.proofs.keeping.sites_keep_callers.Goals as goal

pub returns : goal.returns
returns c = sites_keep
