use Rattle.std.proofs.Common.{ℕ}
use Rattle.frame_conflicts.proofs.Deciding.{conflict_told}
use Rattle.frame_conflicts.proofs.answer.is_conflict.Goals as goal

pub returns-then-is_frame : goal.returns-then-is_frame
returns-then-is_frame c = conflict_told c.args.function.now c.args.known.now c.requires.known c.args.met.now c.args.one c.args.other c.are_apart.result c.requires.met c.requires.order c.requires.frame (c.is_frame.ensures.0 c.if-is_frame.true) c.are_apart.ensures
