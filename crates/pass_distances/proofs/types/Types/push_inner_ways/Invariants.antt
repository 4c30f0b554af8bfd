use Rattle.std.proofs.Common.{◌≡◌, ◌++◌, drop}
use Rattle.pass_distances.specs.Ways.{inner_ways}
use Rattle.pass_distances.proofs.types.Types.push_inner_ways.Given as goal

abbrev pub invariant-loop-index : goal.invariant-loop-index
invariant-loop-index l =
    l.all ++ inner_ways l.self.sizes.now.names.now.source.now l.inside (drop l.index-index l.indices) ≡ l.initial.all ++ inner_ways l.self.sizes.now.names.now.source.now l.fn.ty l.indices
