use Rattle.std.proofs.Common.{◌≡◌, ◌++◌, drop, map}
use Rattle.frame_placing.specs.Groups.{bars_of_groups}
use Rattle.frame_placing.proofs.sides.push_groups.Given as goal

abbrev pub invariant-loop-group : goal.invariant-loop-group
invariant-loop-group l =
    l.bars.items ++ bars_of_groups (map (λ bars. bars.items) l.side) (drop l.group-index l.groups)
    ≡ l.initial.bars.items ++ bars_of_groups (map (λ bars. bars.items) l.side) l.groups
