use Rattle.frame_placing.proofs.Rows.{pair_noted}
use Rattle.frame_placing.proofs.earlier.earlier.Goals as goal

pub loop-pair-preserved : goal.loop-pair-preserved
loop-pair-preserved c =
    pair_noted c.args.rooms.now c.args.promise c.args.conflicts.now c.loop-pair.pair-index _ _ _ c.loop-pair-test.true c.loop-pair.invariant c.in_ok-note.ensures c.in_ok-note-2.ensures
