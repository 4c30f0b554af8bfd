use Rattle.flow_points.specs.Search.{is_closed}
use Rattle.flow_points.proofs.Settling.{IsUnderway, left_of}
use Rattle.flow_points.proofs.graph.settle.Given as goal

abbrev pub invariant-loop-at : goal.invariant-loop-at
invariant-loop-at l = IsUnderway l.function l.direction (is_closed l.limits l.goes_on) l.initial.marks l.initial.found.items l.marks l.found.items l.at

abbrev pub decreases-loop-at : goal.decreases-loop-at
decreases-loop-at l = left_of l.marks l.found.items l.at
