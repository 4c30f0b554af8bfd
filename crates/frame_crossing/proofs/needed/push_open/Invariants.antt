use Rattle.std.proofs.Common.{◌≡◌, ◌++◌, drop}
use Rattle.frame_crossing.specs.Words.{open_starts}
use Rattle.frame_crossing.proofs.needed.push_open.Given as goal

abbrev pub invariant-loop-word : goal.invariant-loop-word
invariant-loop-word l = l.starts.items ++ open_starts l.at (drop l.word-index l.opens) ≡ l.initial.starts.items ++ open_starts 0 l.opens
