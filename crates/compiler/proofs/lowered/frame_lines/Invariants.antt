use Rattle.std.proofs.Common.{◌≡◌, ◌++◌, drop, map}
use Rattle.compiler.specs.Lowering.{frame_line}
use Rattle.compiler.proofs.lowered.frame_lines.Given as goal

abbrev pub invariant-loop-layout : goal.invariant-loop-layout
invariant-loop-layout l = l.all ++ map (frame_line l.source) (drop l.layout-index l.layouts) ≡ map (frame_line l.source) l.layouts
