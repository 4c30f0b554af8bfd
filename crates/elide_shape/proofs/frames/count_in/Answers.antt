use Rattle.elide_shape.proofs.Counting.{count_step}
use Rattle.elide_shape.proofs.frames.count_in.Goals as goal

pub loop-instr-preserved : goal.loop-instr-preserved
loop-instr-preserved g c =
    count_step (g.C.Choice.chosen c.args.choice.now) c.loop-instr.counts c.count.new.counts c.args.instrs.now c.loop-instr.instr-index c.instr-item.result _ c.loop-instr-test.true c.instr-item.is c.in_ok-count.ensures c.loop-instr.invariant
