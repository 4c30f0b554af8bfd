use Rattle.pass_elide.proofs.Unchanged.{no-sites}
use Rattle.pass_elide.proofs.laws.functions_without_sites_stay.Goals as goal

pub returns : goal.returns
returns c = no-sites
