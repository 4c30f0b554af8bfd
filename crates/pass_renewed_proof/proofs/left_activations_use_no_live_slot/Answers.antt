use Rattle.pass_renewed_proof.proofs.Way.{alive_more, left_unused}
use Rattle.pass_renewed_proof.proofs.left_activations_use_no_live_slot.Goals as goal

pub returns-clause-more : goal.returns-clause-more
returns-clause-more c = alive_more

pub returns-clause-unused : goal.returns-clause-unused
returns-clause-unused c = left_unused
