use Rattle.run_states.proofs.sound_states.Steps.{first_sound}
use Rattle.run_states.proofs.sound_states.runs_start_sound.Goals as goal

pub returns : goal.returns
returns c = first_sound
