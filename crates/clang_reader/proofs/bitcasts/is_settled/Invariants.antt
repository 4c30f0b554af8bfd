use Rattle.std.proofs.Common.{◌≡◌, drop}
use Rattle.clang_reader.specs.Bitcasts.{is_settled}
use Rattle.clang_reader.proofs.bitcasts.is_settled.Given as goal

abbrev pub invariant-loop-bitcast : goal.invariant-loop-bitcast
invariant-loop-bitcast l = is_settled l.bitcasts.all (drop l.bitcast-index l.bitcast-items) ≡ is_settled l.bitcasts.all l.bitcast-items
