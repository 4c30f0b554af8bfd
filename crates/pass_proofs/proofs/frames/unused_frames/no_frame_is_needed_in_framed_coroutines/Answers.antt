use Rattle.pass_proofs.proofs.frames.crossing.Whole.{framed_frames}
use Rattle.pass_proofs.proofs.frames.unused_frames.no_frame_is_needed_in_framed_coroutines.Goals as goal

pub returns : goal.returns
returns c = framed_frames
