use Rattle.std.proofs.Common.{◌≡◌, ◌++◌, drop}
use Rattle.clang_reader.specs.Bitcasts.{replaced}
use Rattle.clang_reader.proofs.bitcasts.replaced.Given as goal

abbrev pub invariant-loop-token : goal.invariant-loop-token
invariant-loop-token l = l.out ++ replaced l.bitcasts.all (drop l.token-index l.tokens) ≡ replaced l.bitcasts.all l.tokens
