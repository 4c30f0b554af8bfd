use Rattle.std.proofs.Common.{◌≡◌, length}
use Rattle.clang_writer.specs.Kept.{behind_name}
use Rattle.clang_writer.proofs.kept.behind_name.Given as goal

abbrev pub invariant-loop-rest : goal.invariant-loop-rest
invariant-loop-rest l = behind_name l.rest ≡ behind_name l.tokens

abbrev pub decreases-loop-rest : goal.decreases-loop-rest
decreases-loop-rest l = length l.rest
