use Rattle.frame_conflicts.proofs.Parting.{wide_told}
use Rattle.frame_conflicts.proofs.parts.is_wide.Goals as goal

pub returns-then-is_frame : goal.returns-then-is_frame
returns-then-is_frame c = wide_told c.args.function.now c.args.known.now c.requires c.args.at c.is_loose.result (c.is_frame.ensures.0 c.if-is_frame.true) c.is_loose.ensures
