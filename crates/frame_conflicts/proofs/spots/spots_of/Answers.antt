use Rattle.frame_conflicts.proofs.Spotting.{next_spot}
use Rattle.frame_conflicts.specs.Meeting.{spots_from}
use Rattle.frame_conflicts.proofs.spots.spots_of.Goals as goal

pub loop-at-preserved : goal.loop-at-preserved
loop-at-preserved c =
    next_spot c.args.words.now c.loop-at.spots c.push_spot.new.spots (spots_from 0 c.args.words.now) c.loop-at.at c.word_at.result c.loop-at-test.true c.word_at.ensures c.in_ok-push_spot.ensures c.loop-at.invariant
