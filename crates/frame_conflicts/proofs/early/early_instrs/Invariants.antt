use Rattle.std.proofs.Common.{◌≡◌, drop, map}
use Rattle.frame_conflicts.specs.Early.{early_row}
use Rattle.frame_classes.specs.frame_slots.Words.{used}
use Rattle.frame_conflicts.proofs.early.early_instrs.Given as goal

abbrev pub invariant-loop-instr : goal.invariant-loop-instr
invariant-loop-instr l = early_row l.before l.block l.at l.word (map (used l.words) (drop l.instr-index l.instrs)) ≡ early_row l.before l.block 0 l.first (map (used l.words) l.instrs)
