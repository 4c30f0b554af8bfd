use Rattle.std.proofs.Common.{◌≡◌, ◌++◌, length}
use Rattle.clang_tokens.specs.Lines.{lines}
use Rattle.clang_writer.specs.Lowered.{target_lines}
use Rattle.clang_writer.proofs.lowered.push_targets.Given as goal

abbrev pub invariant-loop-rest : goal.invariant-loop-rest
invariant-loop-rest l = l.out.items ++ target_lines (lines l.rest) ≡ l.initial.out.items ++ target_lines (lines l.original)

abbrev pub decreases-loop-rest : goal.decreases-loop-rest
decreases-loop-rest l = length l.rest
