use Rattle.pass_frames_meaning.proofs.ordinary.Ready.{ordinary_ready}
use Rattle.pass_frames_meaning.proofs.ordinary.ordinary_instructions_are_ready.Goals as goal

pub returns : goal.returns
returns c = ordinary_ready
