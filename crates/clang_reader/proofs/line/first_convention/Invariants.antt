use Rattle.std.proofs.Common.{◌≡◌, drop}
use Rattle.clang_reader.specs.Read.{first_convention}
use Rattle.clang_reader.proofs.line.first_convention.Given as goal

abbrev pub invariant-loop-token : goal.invariant-loop-token
invariant-loop-token l = first_convention (drop l.token-index l.tokens) ≡ first_convention l.tokens
