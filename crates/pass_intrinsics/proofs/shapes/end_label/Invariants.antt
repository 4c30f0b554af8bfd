use Rattle.std.proofs.Common.{◌≡◌, ◌++◌, ◌∷◌, drop, take, map, filter, length, ◌-◌, ◌+◌}
use Rattle.pass_intrinsics.specs.Shapes.{end_label}
use Rattle.pass_intrinsics.proofs.shapes.end_label.Given as goal

abbrev pub invariant-loop-block : goal.invariant-loop-block
invariant-loop-block l = end_label l.blocks ≡ end_label (drop l.block-index l.blocks)
