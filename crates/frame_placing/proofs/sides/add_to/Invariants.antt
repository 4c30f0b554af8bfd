use Rattle.std.proofs.Common.{◌+◌, map, take}
use Rattle.frame_placing.specs.Groups.{AreMoreAt}
use Rattle.frame_placing.proofs.sides.add_to.Given as goal

abbrev pub invariant-loop-group : goal.invariant-loop-group
invariant-loop-group l =
    AreMoreAt (map (λ bars. bars.items) l.initial.side.items) (take l.group-index l.groups) (record { start = l.offset; end = l.offset + l.size }) (map (λ bars. bars.items) l.side.items)
