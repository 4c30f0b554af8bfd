use Rattle.pass_elide_proof.proofs.CallersPlaces.{first_callers}
use Rattle.pass_elide_proof.proofs.kept_callers.runs_start_with_callers.Goals as goal

pub returns : goal.returns
returns c = first_callers
