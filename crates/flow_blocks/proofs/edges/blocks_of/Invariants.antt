use Rattle.std.proofs.Common.{◌≡◌, map, take}
use Rattle.ir_model.specs.Names.{position_of}
use Rattle.flow_blocks.proofs.edges.blocks_of.Given as goal

abbrev pub invariant-loop-label : goal.invariant-loop-label
invariant-loop-label l = l.all.items ≡ map (position_of l.function) (take l.label-index l.label-items)
