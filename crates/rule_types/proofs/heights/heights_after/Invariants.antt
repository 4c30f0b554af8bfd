use Rattle.std.proofs.Common.{◌≡◌, ◌++◌, length}
use Rattle.rule_types.specs.Heights.{heights_after, reaches}
use Rattle.rule_types.proofs.heights.heights_after.Given as goal

abbrev pub invariant-loop-types : goal.invariant-loop-types
invariant-loop-types l =
    l.all ++ heights_after (reaches l.names.source.now.types l.heights) l.depth l.types l.before ≡ heights_after (reaches l.names.source.now.types l.heights) l.depth l.names.source.now.types l.heights

abbrev pub decreases-loop-types : goal.decreases-loop-types
decreases-loop-types l = length l.types
