use Rattle.std.proofs.Common.{◌≡◌, ◌++◌, drop}
use Rattle.pass_elide.specs.Elided.{frame_allocas}
use Rattle.pass_elide.proofs.calls.frame_allocas.Given as goal

abbrev pub invariant-loop-frame : goal.invariant-loop-frame
invariant-loop-frame l = l.all ++ frame_allocas l.name (drop l.frame-index l.frames) ≡ frame_allocas l.first l.frames
