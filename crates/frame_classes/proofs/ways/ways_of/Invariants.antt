use Rattle.std.proofs.Common.{◌≡◌, map, take}
use Rattle.frame_classes.specs.Ways.{way_of}
use Rattle.frame_classes.proofs.ways.ways_of.Given as goal

abbrev pub invariant-loop-block : goal.invariant-loop-block
invariant-loop-block l = l.ways ≡ map (way_of l.function) (take l.block-index l.function.blocks)
