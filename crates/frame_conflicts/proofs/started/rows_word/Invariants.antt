use Rattle.std.proofs.Common.{◌≡◌, drop}
use Rattle.frame_conflicts.specs.Started.{rows_word}
use Rattle.frame_conflicts.proofs.started.rows_word.Given as goal

abbrev pub invariant-loop-row : goal.invariant-loop-row
invariant-loop-row l = rows_word l.word (drop l.row-index l.rows) ≡ rows_word 0 l.rows
