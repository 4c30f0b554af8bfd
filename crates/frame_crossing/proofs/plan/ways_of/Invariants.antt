use Rattle.std.proofs.Common.{◌≡◌, map, take}
use Rattle.frame_crossing.specs.EdgeUses.{way_of}
use Rattle.frame_crossing.proofs.plan.ways_of.Given as goal

abbrev pub invariant-loop-block : goal.invariant-loop-block
invariant-loop-block l = l.ways ≡ map (way_of l.function) (take l.block-index l.function.blocks)
