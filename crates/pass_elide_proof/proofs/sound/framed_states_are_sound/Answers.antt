use Rattle.pass_elide_proof.proofs.SoundSteps.{states_sound, step_sound}
use Rattle.pass_elide_proof.proofs.sound.framed_states_are_sound.Goals as goal

pub returns-clause-step : goal.returns-clause-step
returns-clause-step c g s allocas nests h = step_sound g allocas nests s h

pub returns-clause-runs : goal.returns-clause-runs
returns-clause-runs c g entry args n allocas nests = states_sound g allocas nests entry args n
