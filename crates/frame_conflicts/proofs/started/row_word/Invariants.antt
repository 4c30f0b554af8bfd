use Rattle.std.proofs.Common.{◌≡◌, drop}
use Rattle.frame_conflicts.specs.Started.{row_word}
use Rattle.frame_conflicts.proofs.started.row_word.Given as goal

abbrev pub invariant-loop-pass : goal.invariant-loop-pass
invariant-loop-pass l = row_word l.word (drop l.pass-index l.row) ≡ row_word l.first l.row
