use Rattle.pass_frames_code.proofs.code.Framed.{entry_made, framing_is, others_made}
use Rattle.pass_frames_code.proofs.code.framed_blocks_are_made.Goals as goal

pub returns-clause-is : goal.returns-clause-is
returns-clause-is c = framing_is

pub returns-clause-entry : goal.returns-clause-entry
returns-clause-entry c = entry_made

pub returns-clause-others : goal.returns-clause-others
returns-clause-others c = others_made
