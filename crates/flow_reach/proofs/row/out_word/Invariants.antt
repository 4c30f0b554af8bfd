use Rattle.std.proofs.Common.{◌≡◌, drop}
use Rattle.flow_reach.specs.Rows.{out_word}
use Rattle.flow_reach.proofs.row.out_word.Given as goal

abbrev pub invariant-loop-pass : goal.invariant-loop-pass
invariant-loop-pass l = out_word l.shut l.word (drop l.pass-index l.row) ≡ out_word l.shut l.first l.row
