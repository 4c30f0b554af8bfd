use Rattle.pass_frames_meaning.proofs.led.SoundRuns.{runs_sound}
use Rattle.pass_frames_meaning.proofs.led.runs_that_make_slots_anew_stay_sound.Goals as goal

pub returns : goal.returns
returns c = runs_sound
