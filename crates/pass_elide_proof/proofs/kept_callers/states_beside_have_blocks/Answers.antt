use Rattle.pass_elide_proof.proofs.CallersPlaces.{have_blocks, no_slots}
use Rattle.pass_elide_proof.proofs.kept_callers.states_beside_have_blocks.Goals as goal

pub returns-clause-blocks : goal.returns-clause-blocks
returns-clause-blocks c = have_blocks

pub returns-clause-slots : goal.returns-clause-slots
returns-clause-slots c = no_slots
