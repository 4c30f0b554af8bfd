use Rattle.std.proofs.Common.{◌≡◌, ◌++◌, drop, map}
use Rattle.cli_runs.specs.Runs.{size_of}
use Rattle.cli_runs.proofs.runs.sizes_of.Given as goal

abbrev pub invariant-loop-layout : goal.invariant-loop-layout
invariant-loop-layout l = l.sizes ++ map size_of (drop l.layout-index l.layouts) ≡ map size_of l.layouts
