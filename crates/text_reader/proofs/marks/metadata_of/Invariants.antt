use Rattle.std.proofs.Common.{◌≡◌, length}
use Rattle.text_reader.specs.Reading.{behind_metadata}
use Rattle.text_reader.proofs.marks.metadata_of.Given as goal

abbrev pub invariant-loop-rest : goal.invariant-loop-rest
invariant-loop-rest l = behind_metadata l.symbols ≡ behind_metadata l.rest

abbrev pub decreases-loop-rest : goal.decreases-loop-rest
decreases-loop-rest l = length l.rest
