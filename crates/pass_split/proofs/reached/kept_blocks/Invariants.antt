use Rattle.std.proofs.Common.{◌≡◌, ◌++◌, ◌∷◌, drop, take, map, filter, length, ◌-◌, ◌+◌}
use Rattle.pass_split.specs.Reached.{kept_blocks}
use Rattle.pass_split.proofs.reached.kept_blocks.Given as goal

abbrev pub invariant-loop-block : goal.invariant-loop-block
invariant-loop-block l = l.all ++ kept_blocks l.flags (drop l.block-index l.blocks) ≡ kept_blocks l.flags l.blocks
