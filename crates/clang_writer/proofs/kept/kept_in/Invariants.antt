use Rattle.std.proofs.Common.{◌≡◌, ◌++◌, length}
use Rattle.clang_tokens.specs.Lines.{lines}
use Rattle.clang_writer.specs.Kept.{kept_in, kept_lines}
use Rattle.clang_writer.proofs.kept.kept_in.Given as goal

abbrev pub invariant-loop-rest : goal.invariant-loop-rest
invariant-loop-rest l = kept_in l.original ≡ l.all ++ kept_lines (lines l.rest)

abbrev pub decreases-loop-rest : goal.decreases-loop-rest
decreases-loop-rest l = length l.rest
