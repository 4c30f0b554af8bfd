use Rattle.compiler_theorem.proofs.kinds.Begins.{begins_in_ramp, own_alloca}
use Rattle.compiler_theorem.proofs.kinds.FramedSlots.{framed_slots_own}
use Rattle.compiler_theorem.proofs.kinds.begins_of_sources_are_known.Goals as goal

pub returns-clause-ramp : goal.returns-clause-ramp
returns-clause-ramp c = begins_in_ramp

pub returns-clause-allocas : goal.returns-clause-allocas
returns-clause-allocas c = own_alloca

pub returns-clause-framed : goal.returns-clause-framed
returns-clause-framed c = framed_slots_own
