use Rattle.std.proofs.Common.{◌≡◌, ◌++◌, drop}
use Rattle.clang_writer.specs.Dressed.{all_renamed}
use Rattle.clang_writer.proofs.names.all_renamed.Given as goal

abbrev pub invariant-loop-token : goal.invariant-loop-token
invariant-loop-token l = l.out ++ all_renamed (drop l.token-index l.tokens) ≡ all_renamed l.tokens
