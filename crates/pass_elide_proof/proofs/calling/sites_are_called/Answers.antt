use Rattle.pass_elide_proof.proofs.SiteCalls.{sites_called}
use Rattle.pass_elide_proof.proofs.calling.sites_are_called.Goals as goal

pub returns : goal.returns
returns c = sites_called
