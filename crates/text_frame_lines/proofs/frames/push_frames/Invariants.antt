use Rattle.std.proofs.Common.{◌≡◌, ◌++◌, drop}
use Rattle.text_frame_lines.specs.Frames.{frames_text}
use Rattle.text_frame_lines.proofs.frames.push_frames.Given as goal

abbrev pub invariant-loop-frame : goal.invariant-loop-frame
invariant-loop-frame l = l.out.items ++ frames_text (drop l.frame-index l.frames) ≡ l.initial.out.items ++ frames_text l.frames
