use Rattle.pass_elide_proof.proofs.EarlyEnds.{early_end}
use Rattle.pass_elide_proof.proofs.ending.early_ends_stay_beside.Goals as goal

pub returns : goal.returns
returns c = early_end
