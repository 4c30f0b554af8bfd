use Rattle.std.proofs.Common.{◌≡◌, ◌++◌, drop}
use Rattle.clang_reader.specs.Bitcasts.{followed}
use Rattle.clang_reader.proofs.bitcasts.followed.Given as goal

abbrev pub invariant-loop-bitcast : goal.invariant-loop-bitcast
invariant-loop-bitcast l = l.out ++ followed l.bitcasts.all (drop l.bitcast-index l.bitcast-items) ≡ followed l.bitcasts.all l.bitcast-items
