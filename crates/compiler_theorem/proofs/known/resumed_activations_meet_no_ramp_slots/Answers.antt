use Rattle.compiler_theorem.proofs.known.Resumed.{none_resumed}
use Rattle.compiler_theorem.proofs.known.resumed_activations_meet_no_ramp_slots.Goals as goal

pub returns : goal.returns
returns c = none_resumed
