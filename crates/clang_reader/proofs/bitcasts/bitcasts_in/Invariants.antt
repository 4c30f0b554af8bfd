use Rattle.std.proofs.Common.{◌≡◌, ◌++◌, length}
use Rattle.clang_tokens.specs.Lines.{lines}
use Rattle.clang_reader.specs.Bitcasts.{bitcasts_in}
use Rattle.clang_reader.proofs.bitcasts.bitcasts_in.Given as goal

abbrev pub invariant-loop-rest : goal.invariant-loop-rest
invariant-loop-rest l = l.all ++ bitcasts_in (lines l.rest) ≡ bitcasts_in (lines l.text)

abbrev pub decreases-loop-rest : goal.decreases-loop-rest
decreases-loop-rest l = length l.rest
