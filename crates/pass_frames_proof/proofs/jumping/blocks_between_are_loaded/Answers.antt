use Rattle.pass_frames_proof.proofs.jumping.Placed.{between_label, between_term}
use Rattle.pass_frames_proof.proofs.jumping.blocks_between_are_loaded.Goals as goal

pub returns-clause-label : goal.returns-clause-label
returns-clause-label c = between_label

pub returns-clause-term : goal.returns-clause-term
returns-clause-term c = between_term
