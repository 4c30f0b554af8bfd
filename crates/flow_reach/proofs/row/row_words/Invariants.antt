use Rattle.std.proofs.Common.{◌≡◌, ◌++◌, drop}
use Rattle.flow_reach.specs.Rows.{row_words}
use Rattle.flow_reach.proofs.row.row_words.Given as goal

abbrev pub invariant-loop-pass : goal.invariant-loop-pass
invariant-loop-pass l = l.words.items ++ row_words l.shut l.word (drop l.pass-index l.row) ≡ row_words l.shut l.first l.row
