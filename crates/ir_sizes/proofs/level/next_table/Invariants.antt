use Rattle.std.proofs.Common.{◌≡◌, ◌++◌, drop, map}
use Rattle.ir_sizes.specs.Cut.{cut_whole}
use Rattle.ir_sizes.specs.Levels.{known}
use Rattle.ir_sizes.proofs.level.next_table.Given as goal

abbrev pub invariant-loop-item : goal.invariant-loop-item
invariant-loop-item l =
    l.all ++ map (λ t. cut_whole (known l.names.source.now.types l.table) t.ty) (drop l.item-index l.item-items) ≡ map (λ t. cut_whole (known l.names.source.now.types l.table) t.ty) l.item-items
