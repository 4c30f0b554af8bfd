use Rattle.run_states.proofs.moved_states.Soundness.{step_holds}
use Rattle.run_states.proofs.moved_states.framed_states_stay_sound.Goals as goal

pub returns : goal.returns
returns c = λ mv m names moves layouts answers s holds. step_holds mv m layouts answers names moves s holds
