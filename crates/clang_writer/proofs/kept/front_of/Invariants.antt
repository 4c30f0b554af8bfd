use Rattle.std.proofs.Common.{◌≡◌, ◌++◌, drop}
use Rattle.clang_writer.specs.Kept.{front_of}
use Rattle.clang_writer.proofs.kept.front_of.Given as goal

abbrev pub invariant-loop-token : goal.invariant-loop-token
invariant-loop-token l = l.front ++ front_of (drop l.token-index l.tokens) ≡ front_of l.tokens
