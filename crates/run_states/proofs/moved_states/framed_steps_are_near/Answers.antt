use Rattle.run_states.proofs.moved_states.Steps.{step_near}
use Rattle.run_states.proofs.moved_states.framed_steps_are_near.Goals as goal

pub returns : goal.returns
returns c = λ mv m kinds names moves layouts answers s holds running. step_near mv kinds m layouts answers names moves s holds running
