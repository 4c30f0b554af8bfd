use Rattle.std.proofs.Common.{ℕ}
use Rattle.frame_conflicts.proofs.Spotting.{at_spots}
use Rattle.frame_conflicts.specs.Meeting.{AreCovered, AreMeetingsBefore}
use Rattle.frame_conflicts.proofs.meeting.meetings.Given as goal

abbrev pub invariant-loop-spot : goal.invariant-loop-spot
invariant-loop-spot l = AreMeetingsBefore (at_spots l.spots l.one) (at_spots l.spots l.other) l.spot-index l.words × AreCovered l.last_x l.last_y l.words
