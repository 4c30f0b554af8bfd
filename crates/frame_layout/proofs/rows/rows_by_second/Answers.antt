use Rattle.frame_layout.proofs.Turns.{first_noted, firsts_done}
use Rattle.frame_layout.proofs.rows.rows_by_second.Goals as goal

pub loop-pair-preserved : goal.loop-pair-preserved
loop-pair-preserved c = first_noted c.args.pairs.now c.loop-pair.pair-index c.loop-pair.rows.items c.note.new.rows.items c.loop-pair-test.true c.loop-pair.invariant c.in_ok-note.ensures

pub returns : goal.returns
returns c = firsts_done c.args.pairs.now c.loop-pair.pair-index c.loop-pair.rows.items c.loop-pair-test.false c.loop-pair.invariant
