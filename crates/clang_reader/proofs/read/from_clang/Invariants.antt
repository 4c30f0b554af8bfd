use Rattle.std.proofs.Common.{◌≡◌, ◌≤◌, ◌+◌, length}
use Rattle.clang_tokens.specs.Lines.{lines}
use Rattle.clang_reader.specs.Read.{from_clang, behind, read_lines}
use Rattle.clang_reader.proofs.read.from_clang.Given as goal

abbrev pub invariant-loop-rest : goal.invariant-loop-rest
invariant-loop-rest l = record {
  read : from_clang l.text ≡ behind l.out.items (read_lines l.bitcasts.all l.number (lines l.rest));
  count : l.number + length l.rest ≤ length l.text + 1;
}

abbrev pub decreases-loop-rest : goal.decreases-loop-rest
decreases-loop-rest l = length l.rest
