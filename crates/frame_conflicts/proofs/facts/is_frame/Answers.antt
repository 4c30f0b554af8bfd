use Rattle.frame_conflicts.proofs.Frames.{frame_told}
use Rattle.frame_conflicts.proofs.facts.is_frame.Goals as goal

pub returns : goal.returns
returns c = frame_told c.args.function.now c.args.classes.now c.requires c.args.at c.is_frame_class.result c.is_frame_class.ensures
