use Rattle.std.proofs.Common.{◌≡◌, take}
use Rattle.flow_points.specs.ir_paths.Windows.{is_call_of, points_in}
use Rattle.flow_facts.proofs.calls.points_of_calls.Given as goal

abbrev pub invariant-loop-block : goal.invariant-loop-block
invariant-loop-block l = l.all ≡ points_in (is_call_of l.intrinsic) 0 (take l.block l.blocks)
