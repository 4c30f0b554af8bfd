use Rattle.std.proofs.Common.{ℕ}
use Rattle.frame_conflicts.specs.Conflicts.{AliveAt}
use Rattle.frame_conflicts.specs.Pairs.{AreUpTo}
use Rattle.frame_conflicts.proofs.suspended.push_suspends.Given as goal

abbrev pub invariant-loop-suspend : goal.invariant-loop-suspend
invariant-loop-suspend l = AreUpTo (AliveAt l.function) l.at l.suspend l.pairs
