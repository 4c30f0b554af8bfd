use Rattle.compiler_theorem.proofs.kinds.States.{first_beside, frame_named, ramp_beside}
use Rattle.compiler_theorem.proofs.kinds.states_tell_kinds.Goals as goal

pub returns-clause-begun : goal.returns-clause-begun
returns-clause-begun c = frame_named

pub returns-clause-ramp : goal.returns-clause-ramp
returns-clause-ramp c = ramp_beside

pub returns-clause-first : goal.returns-clause-first
returns-clause-first c = first_beside
