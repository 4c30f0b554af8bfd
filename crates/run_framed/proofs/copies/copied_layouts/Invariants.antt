use Rattle.std.proofs.Common.{◌≡◌, take}
use Rattle.run_framed.proofs.copies.copied_layouts.Given as goal

abbrev pub invariant-loop-layout : goal.invariant-loop-layout
invariant-loop-layout l = l.all ≡ take l.layout-index l.layouts
