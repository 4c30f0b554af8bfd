use Rattle.std.proofs.Common.{◌≡◌, ◌+◌, drop}
use Rattle.flow_points.proofs.LabelPositions.{leading}
use Rattle.flow_points.proofs.labels.search.Given as goal

abbrev pub invariant-loop-at : goal.invariant-loop-at
invariant-loop-at l = leading l.label l.blocks ≡ l.at + leading l.label (drop l.at l.blocks)
