use Rattle.std.proofs.Common.{◌≡◌}
use Rattle.frame_conflicts.proofs.Chunks.{more_met}
use Rattle.frame_conflicts.proofs.meeting.all_meetings.Goals as goal

pub loop-other-preserved : goal.loop-other-preserved
loop-other-preserved c = more_met c.args.chunks.now c.args.one c.loop-other.other c.loop-other.met c.push.new.self c.in_ok-meetings_from.field-0 c.in_ok-push.ensures.ok c.in_ok-meetings_from.ensures c.loop-other.invariant
