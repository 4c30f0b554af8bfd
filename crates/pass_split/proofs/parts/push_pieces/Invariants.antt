use Rattle.std.proofs.Common.{◌≡◌, ◌++◌, ◌∷◌, drop, take, map, filter, length, ◌-◌, ◌+◌}
use Rattle.pass_split.specs.Pieces.{pieces_of, next_after}
use Rattle.pass_split.proofs.parts.push_pieces.Given as goal

abbrev pub invariant-loop-block : goal.invariant-loop-block
invariant-loop-block l = (l.all ++ pieces_of l.shape l.part l.origins l.next (drop l.block-index l.blocks) ≡ l.initial.all ++ pieces_of l.shape l.part l.origins l.first l.blocks) × (next_after l.shape l.part l.origins l.next (drop l.block-index l.blocks) ≡ next_after l.shape l.part l.origins l.first l.blocks)
