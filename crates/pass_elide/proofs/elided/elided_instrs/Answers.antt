use Rattle.pass_elide.proofs.Walks.{frames-next, instr-next}
use Rattle.pass_elide.proofs.elided.elided_instrs.Goals as goal

pub loop-instr-preserved : goal.loop-instr-preserved
loop-instr-preserved g c =
    let frame = g.R.GivenFrames.found c.args.finder.now c.args.block in (
      instr-next frame c.args.instrs.now c.loop-instr.instr-index c.instr-item.result c.loop-instr.at _ c.args.base c.loop-instr.all _ _
          c.loop-instr.frames _ c.loop-instr-test.true c.instr-item.is c.loop-instr.invariant.0 c.in_ok-push_turned.ensures.instrs
          c.in_ok-push_turned.ensures.frames c.in_ok-at.ensures,
      frames-next frame c.args.instrs.now c.loop-instr.instr-index c.instr-item.result c.loop-instr.at _ c.loop-instr.frames _ _
          c.loop-instr-test.true c.instr-item.is c.loop-instr.invariant.1 c.in_ok-push_turned.ensures.frames c.in_ok-at.ensures,
    )
