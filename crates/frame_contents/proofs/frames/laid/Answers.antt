use Rattle.frame_contents.proofs.Placed.{shared_laid}
use Rattle.frame_contents.proofs.frames.laid.Goals as goal

pub returns-then-share : goal.returns-then-share
returns-then-share c =
    shared_laid c.args.function.now c.args.func c.args.share c.args.held.now c.args.crossing.now c.args.allocas.now c.in_ok-fields.fields.items c.as_slice.result.now c.args.positions.now c.laid_shared.result c.if-share.true c.in_ok-fields.ensures c.as_slice.ensures.value
    c.requires.allocas c.requires.positions c.laid_shared.ensures
