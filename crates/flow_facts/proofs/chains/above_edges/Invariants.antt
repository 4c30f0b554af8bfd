use Rattle.std.proofs.Common.{take, ◌≤◌}
use Rattle.flow_solver.specs.Paths.{HasNodes}
use Rattle.flow_facts.proofs.chains.above_edges.Given as goal

abbrev pub invariant-loop-from : goal.invariant-loop-from
invariant-loop-from l =
    record {
      edges : HasNodes l.count (take l.from-index l.edges);
      least : l.least ≤ l.count;
    }
