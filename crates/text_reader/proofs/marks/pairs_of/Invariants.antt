use Rattle.std.proofs.Common.{◌≡◌, length}
use Rattle.text_reader.specs.Reading.{behind_pairs}
use Rattle.text_reader.proofs.marks.pairs_of.Given as goal

abbrev pub invariant-loop-rest : goal.invariant-loop-rest
invariant-loop-rest l = behind_pairs l.symbols ≡ behind_pairs l.rest

abbrev pub decreases-loop-rest : goal.decreases-loop-rest
decreases-loop-rest l = length l.rest
