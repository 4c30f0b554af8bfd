use Rattle.run_step.proofs.Extents.{repeated-is}
use Rattle.run_step.proofs.extent.repeated.Goals as goal

pub returns : goal.returns
returns c = λ e is. repeated-is c.args.count c.cap.result c.args.element e c.cap.ensures is
