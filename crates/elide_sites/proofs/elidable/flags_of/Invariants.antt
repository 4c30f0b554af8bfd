use Rattle.elide_sites.specs.Elidable.{AreFlagsTo}
use Rattle.elide_sites.proofs.elidable.flags_of.Given as goal

abbrev pub invariant-loop-at : goal.invariant-loop-at
invariant-loop-at l = AreFlagsTo l.at l.module l.flags
