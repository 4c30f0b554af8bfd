use Rattle.std.proofs.Common.{◌≡◌, ◌≤◌, ◌+◌, length}
use Rattle.clang_tokens.specs.Lines.{lines}
use Rattle.clang_writer.specs.Kept.{kept_in}
use Rattle.clang_writer.specs.Lowered.{to_clang, behind, write_lines}
use Rattle.clang_writer.proofs.lowered.to_clang.Given as goal

abbrev pub invariant-loop-rest : goal.invariant-loop-rest
invariant-loop-rest l = record {
  read : to_clang l.original l.lowered ≡ behind l.out.items (write_lines (kept_in l.original) l.number (lines l.rest));
  count : l.number + length l.rest ≤ length l.lowered + 1;
}

abbrev pub decreases-loop-rest : goal.decreases-loop-rest
decreases-loop-rest l = length l.rest
