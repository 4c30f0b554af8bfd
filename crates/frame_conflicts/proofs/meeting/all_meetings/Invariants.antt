use Rattle.std.proofs.Common.{ℕ}
use Rattle.frame_conflicts.specs.Known.{AreMetFor}
use Rattle.frame_conflicts.proofs.meeting.all_meetings.Given as goal

abbrev pub invariant-loop-other : goal.invariant-loop-other
invariant-loop-other l = AreMetFor l.chunks l.one l.other l.met
