use Rattle.std.proofs.Common.{drop}
use Rattle.flow_solver.specs.Paths.{HasNodes}
use Rattle.rule_slots.proofs.steps.are_within.Given as goal

abbrev pub invariant-loop-step : goal.invariant-loop-step
invariant-loop-step l = HasNodes l.nodes (drop l.step-index l.steps) → HasNodes l.nodes l.steps
