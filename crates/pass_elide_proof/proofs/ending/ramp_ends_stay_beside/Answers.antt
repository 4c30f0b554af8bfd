use Rattle.pass_elide_proof.proofs.EndsRamp.{ramp_ends}
use Rattle.pass_elide_proof.proofs.ending.ramp_ends_stay_beside.Goals as goal

pub returns : goal.returns
returns c = ramp_ends
