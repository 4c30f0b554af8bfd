use Rattle.std.proofs.Common.{◌≡◌, ◌++◌, take}
use Rattle.flow_points.specs.ir_paths.Windows.{is_call_of, points_from}
use Rattle.flow_facts.proofs.calls.push_calls.Given as goal

abbrev pub invariant-loop-at : goal.invariant-loop-at
invariant-loop-at l = l.all ≡ l.initial.all ++ points_from (is_call_of l.intrinsic) l.block 0 (take l.at l.instrs)
