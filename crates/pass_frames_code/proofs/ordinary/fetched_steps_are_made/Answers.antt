use Rattle.pass_frames_code.proofs.ordinary.Made.{made}
use Rattle.pass_frames_code.proofs.ordinary.fetched_steps_are_made.Goals as goal

pub returns : goal.returns
returns z = λ homes hides maps t given c d law law' w y n i m. made homes hides maps t given c d law law' w y n i m
