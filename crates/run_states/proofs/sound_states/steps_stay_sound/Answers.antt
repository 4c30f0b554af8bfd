use Rattle.run_states.proofs.sound_states.Steps.{step_sound}
use Rattle.run_states.proofs.sound_states.steps_stay_sound.Goals as goal

pub returns : goal.returns
returns c = step_sound
