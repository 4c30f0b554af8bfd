use Rattle.std.proofs.Common.{take}
use Rattle.flow_points.specs.Search.{IsGrown, adjoins_any}
use Rattle.flow_points.proofs.graph.begin.Given as goal

abbrev pub invariant-loop-start : goal.invariant-loop-start
invariant-loop-start l = IsGrown (adjoins_any l.function l.direction (take l.start-index l.starts)) l.initial.marks l.initial.found.items l.marks l.found.items
