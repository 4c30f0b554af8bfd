use Rattle.pass_elide_proof.proofs.FrontsMade.{fronts_keep}
use Rattle.pass_elide_proof.proofs.keeping.fronts_keep_callers.Goals as goal

pub returns : goal.returns
returns c = fronts_keep
