use Rattle.std.proofs.Common.{◌≡◌, ◌++◌, ◌∷◌, drop, take, map, filter, length, ◌-◌, ◌+◌}
use Rattle.pass_intrinsics.specs.Shapes.{with_suspends_by}
use Rattle.pass_intrinsics.proofs.shapes.push_suspends_by.Given as goal

abbrev pub invariant-loop-block : goal.invariant-loop-block
invariant-loop-block l = with_suspends_by l.all (drop l.block-index l.blocks) ≡ with_suspends_by l.initial.all l.blocks
