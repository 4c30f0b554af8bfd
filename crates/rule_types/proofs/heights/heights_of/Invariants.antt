use Rattle.std.proofs.Common.{◌≡◌, ◌≤◌, ◌-◌, map}
use Rattle.rule_types.specs.Heights.{height_to}
use Rattle.rule_types.proofs.heights.heights_of.Given as goal

abbrev pub invariant-loop-depth : goal.invariant-loop-depth
invariant-loop-depth l = (l.heights ≡ map (λ t. height_to l.names.source.now.types l.depth t.ty) l.names.source.now.types) × (l.depth ≤ 64)

abbrev pub decreases-loop-depth : goal.decreases-loop-depth
decreases-loop-depth l = 64 - l.depth
