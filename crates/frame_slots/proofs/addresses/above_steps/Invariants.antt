use Rattle.std.proofs.Common.{take, ◌≤◌}
use Rattle.flow_solver.specs.Paths.{HasNodes}
use Rattle.frame_slots.proofs.addresses.above_steps.Given as goal

abbrev pub invariant-loop-from : goal.invariant-loop-from
invariant-loop-from l =
    record {
      steps : HasNodes l.count (take l.from-index l.steps);
      least : l.least ≤ l.count;
    }
