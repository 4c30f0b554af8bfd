use Rattle.std.proofs.Common.{◌≡◌, ◌++◌, ◌∷◌, drop, take, map, filter, length, ◌-◌, ◌+◌}
use Rattle.pass_split.specs.Pieces.{origins_by}
use Rattle.pass_split.proofs.origins.set_blocks.Given as goal

abbrev pub invariant-loop-block : goal.invariant-loop-block
invariant-loop-block l = origins_by l.shape l.part l.table (drop l.block-index l.blocks) ≡ origins_by l.shape l.part l.initial.table l.blocks
