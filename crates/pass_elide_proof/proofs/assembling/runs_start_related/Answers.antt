use Rattle.pass_elide_proof.proofs.StartsRelated.{starts_related}
use Rattle.pass_elide_proof.proofs.assembling.runs_start_related.Goals as goal

pub returns : goal.returns
returns c = starts_related
