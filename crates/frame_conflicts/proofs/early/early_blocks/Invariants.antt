use Rattle.std.proofs.Common.{◌≡◌, drop, map}
use Rattle.frame_conflicts.specs.Early.{early_rows}
use Rattle.frame_classes.specs.frame_slots.Words.{use_row}
use Rattle.frame_conflicts.proofs.early.early_blocks.Given as goal

abbrev pub invariant-loop-block : goal.invariant-loop-block
invariant-loop-block l = early_rows l.before l.at l.word (map (use_row l.words) (drop l.block-index l.blocks)) ≡ early_rows l.before 0 0 (map (use_row l.words) l.blocks)
