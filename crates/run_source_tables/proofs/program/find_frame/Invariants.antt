use Rattle.std.proofs.Common.{◌≡◌, drop}
use Rattle.run_source_tables.specs.Given.{frame_of}
use Rattle.run_source_tables.proofs.program.find_frame.Given as goal

abbrev pub invariant-loop-frame : goal.invariant-loop-frame
invariant-loop-frame l = frame_of l.frames l.func ≡ frame_of (drop l.frame-index l.frames) l.func
