use Rattle.std.proofs.Common.{◌≡◌, ◌++◌, ◌∷◌, drop, take, map, filter, length, ◌-◌, ◌+◌}
use Rattle.pass_split.specs.Reached.{edges_of}
use Rattle.pass_split.proofs.reached.edge_count.Given as goal

abbrev pub invariant-loop-block : goal.invariant-loop-block
invariant-loop-block l = l.count + edges_of (drop l.block-index l.blocks) ≡ edges_of l.blocks
