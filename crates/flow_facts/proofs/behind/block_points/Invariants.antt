use Rattle.std.proofs.Common.{◌≡◌, ◌++◌, ◌-◌}
use Rattle.flow_points.specs.ir_paths.Paths.{block_points}
use Rattle.flow_facts.proofs.behind.block_points.Given as goal

abbrev pub invariant-loop-back : goal.invariant-loop-back
invariant-loop-back l = l.all ++ block_points l.block (l.count - l.back) ≡ block_points l.block l.count
