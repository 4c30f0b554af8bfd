use Rattle.std.proofs.Common.{◌≡◌, drop}
use Rattle.pass_cells.specs.Kept.{with_block_types}
use Rattle.pass_cells.proofs.value_types.set_block_types.Given as goal

abbrev pub invariant-loop-block : goal.invariant-loop-block
invariant-loop-block l = with_block_types l.places l.types (drop l.block-index l.blocks) ≡ with_block_types l.places l.initial.types l.blocks
