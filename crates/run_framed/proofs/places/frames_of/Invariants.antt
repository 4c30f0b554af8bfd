use Rattle.std.proofs.Common.{◌≡◌, map, take}
use Rattle.run_framed.specs.Framed.{frame_of_layout}
use Rattle.run_framed.proofs.places.frames_of.Given as goal

abbrev pub invariant-loop-layout : goal.invariant-loop-layout
invariant-loop-layout l = l.all ≡ map frame_of_layout (take l.layout-index l.layouts)
