use Rattle.std.proofs.Common.{◌≡◌, ◌+◌, List, ℕ, arith, true}
use Rattle.frame_conflicts.proofs.Meetings.{step_met, step_none}
use Rattle.frame_conflicts.proofs.Spotting.{at_spots, meetings_at_spots, spot_word}
use Rattle.frame_conflicts.specs.Meeting.{are_of}
use Rattle.frame_conflicts.proofs.meeting.meetings.Goals.{then-not-are_of, else-not-are_of}
use Rattle.frame_conflicts.proofs.meeting.meetings.Goals as goal

pub loop-spot-preserved : goal.loop-spot-preserved
loop-spot-preserved c =
    let one : List ℕ = at_spots c.args.spots.now c.args.one.now in
    let other : List ℕ = at_spots c.args.spots.now c.args.other.now in
    let x_is = spot_word c.args.spots.now c.args.one.now c.loop-spot.spot-index c.word_at-x.result c.loop-spot-test.true c.word_at-x.ensures in
    let y_is = spot_word c.args.spots.now c.args.other.now c.loop-spot.spot-index c.word_at-y.result c.loop-spot-test.true c.word_at-y.ensures in
    elim c.if-not-are_of.branch [
      | then-not-are_of w ↦
          step_met one other c.loop-spot.words w.meet.new.words c.if-not-are_of.words c.loop-spot.spot-index c.word_at-x.result c.word_at-y.result c.if-not-are_of.last_x c.if-not-are_of.last_y (cc) (cc) (cc) x_is y_is w.meet.ensures c.loop-spot.invariant.0
      | else-not-are_of w ↦
          let same : are_of c.word_at-x.result c.word_at-y.result c.loop-spot.last_x c.loop-spot.last_y ≡ true = cc in
          step_none one other c.loop-spot.words c.if-not-are_of.words c.loop-spot.spot-index c.word_at-x.result c.word_at-y.result c.loop-spot.last_x c.loop-spot.last_y c.if-not-are_of.last_x c.if-not-are_of.last_y (cc) (cc) (cc) x_is y_is same c.loop-spot.invariant
    ]

pub returns : goal.returns
returns c = meetings_at_spots c.args.one.now c.args.other.now c.args.spots.now c.loop-spot.words c.loop-spot.spot-index (omega arith) c.requires c.loop-spot.invariant.0
