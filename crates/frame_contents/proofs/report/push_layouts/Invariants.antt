use Rattle.std.proofs.Common.{◌≡◌, ◌++◌, drop}
use Rattle.frame_contents.specs.Report.{layouts_text}
use Rattle.frame_contents.proofs.report.push_layouts.Given as goal

abbrev pub invariant-loop-layout : goal.invariant-loop-layout
invariant-loop-layout l = l.out.items ++ layouts_text l.source (drop l.layout-index l.layouts) ≡ l.initial.out.items ++ layouts_text l.source l.layouts
