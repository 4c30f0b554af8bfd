use Rattle.std.proofs.Common.{◌≡◌, length}
use Rattle.clang_reader.specs.Read.{behind_spaces}
use Rattle.clang_reader.proofs.line.behind_spaces.Given as goal

abbrev pub invariant-loop-rest : goal.invariant-loop-rest
invariant-loop-rest l = behind_spaces l.rest ≡ behind_spaces l.line

abbrev pub decreases-loop-rest : goal.decreases-loop-rest
decreases-loop-rest l = length l.rest
