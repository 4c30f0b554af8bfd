use Rattle.std.proofs.Common.{◌≡◌, ◌++◌, drop, map}
use Rattle.rule_types.specs.Heights.{height_to}
use Rattle.rule_types.proofs.heights.no_heights.Given as goal

abbrev pub invariant-loop-item : goal.invariant-loop-item
invariant-loop-item l = l.all ++ map (λ t. height_to l.types 0 t.ty) (drop l._item-index l.types) ≡ map (λ t. height_to l.types 0 t.ty) l.types
