use Rattle.pass_elide_proof.proofs.MakingSteps.{allocators_stay_beside, slots_stay_beside}
use Rattle.pass_elide_proof.proofs.ordinary.new_blocks_stay_beside.Goals as goal

pub returns-clause-allocas : goal.returns-clause-allocas
returns-clause-allocas c = slots_stay_beside

pub returns-clause-allocators : goal.returns-clause-allocators
returns-clause-allocators c = allocators_stay_beside
