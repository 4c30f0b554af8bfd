use Rattle.std.proofs.Common.{◌≡◌, ◌++◌, drop, map, None}
use Rattle.ir_sizes.proofs.level.no_extents.Given as goal

abbrev pub invariant-loop-item : goal.invariant-loop-item
invariant-loop-item l = l.all ++ map (λ t. None) (drop l._item-index l.types) ≡ map (λ t. None) l.types
