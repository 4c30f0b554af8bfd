use Rattle.std.proofs.Common.{◌≡◌, drop}
use Rattle.flow_reach.specs.Rows.{stops_word}
use Rattle.flow_reach.proofs.row.stops_word.Given as goal

abbrev pub invariant-loop-pass : goal.invariant-loop-pass
invariant-loop-pass l = stops_word l.word (drop l.pass-index l.row) ≡ stops_word l.first l.row
