use Rattle.run_states.proofs.sound_states.Steps.{source_step_sound}
use Rattle.run_states.proofs.sound_states.source_steps_stay_sound.Goals as goal

pub returns : goal.returns
returns c = source_step_sound
