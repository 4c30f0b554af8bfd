use Rattle.pass_frames_code.proofs.stepping.Ordinary.{ordinary_followed}
use Rattle.pass_frames_code.proofs.stepping.ordinary_instructions_are_followed.Goals as goal

pub returns : goal.returns
returns c = ordinary_followed
