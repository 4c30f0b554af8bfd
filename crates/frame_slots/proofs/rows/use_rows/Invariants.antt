use Rattle.std.proofs.Common.{◌≡◌, map, take}
use Rattle.frame_slots.specs.Words.{use_row}
use Rattle.frame_slots.proofs.rows.use_rows.Given as goal

abbrev pub invariant-loop-block : goal.invariant-loop-block
invariant-loop-block l = l.rows.items ≡ map (use_row l.words) (take l.block-index l.blocks)
