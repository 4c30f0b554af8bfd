use Rattle.std.proofs.Common.{length}
use Rattle.text_frame_lines.proofs.Leading.{Kept}
use Rattle.text_frame_lines.proofs.comments.read_frames.Given as goal

abbrev pub invariant-loop-rest : goal.invariant-loop-rest
invariant-loop-rest l = Kept l.text l.frames l.rest

abbrev pub decreases-loop-rest : goal.decreases-loop-rest
decreases-loop-rest l = length l.rest
