use Rattle.std.proofs.Common.{◌≡◌, drop}
use Rattle.clang_writer.specs.Kept.{name_in}
use Rattle.clang_writer.proofs.kept.name_in.Given as goal

abbrev pub invariant-loop-token : goal.invariant-loop-token
invariant-loop-token l = name_in (drop l.token-index l.tokens) ≡ name_in l.tokens
