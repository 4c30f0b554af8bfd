use Rattle.run_states.proofs.sound_states.Acts.{continue_sound}
use Rattle.run_states.proofs.sound_states.resumes_stay_sound.Goals as goal

pub returns : goal.returns
returns c = continue_sound
