use Rattle.compiler_theorem.proofs.known.InFrames.{slot_in_frame}
use Rattle.compiler_theorem.proofs.known.slots_in_frames_of_sources_are_known.Goals as goal

pub returns : goal.returns
returns c = slot_in_frame
