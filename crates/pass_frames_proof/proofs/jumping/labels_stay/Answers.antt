use Rattle.pass_frames_proof.proofs.jumping.Labels.{label_there, position_same}
use Rattle.pass_frames_proof.proofs.jumping.labels_stay.Goals as goal

pub returns-clause-block : goal.returns-clause-block
returns-clause-block c = label_there

pub returns-clause-position : goal.returns-clause-position
returns-clause-position c = position_same
