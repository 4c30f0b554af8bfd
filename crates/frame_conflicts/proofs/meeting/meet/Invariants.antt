use Rattle.std.proofs.Common.{ℕ}
use Rattle.frame_conflicts.specs.Meeting.{HaveMet}
use Rattle.frame_conflicts.proofs.meeting.meet.Given as goal

abbrev pub invariant-loop-bit : goal.invariant-loop-bit
invariant-loop-bit l = HaveMet l.one l.other l.bit l.initial.words l.words
