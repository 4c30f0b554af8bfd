use Rattle.pass_proofs.proofs.frames.rules.Built.{passes_fit}
use Rattle.pass_proofs.proofs.frames.rules.frames_may_be_built.Goals as goal

pub returns : goal.returns
returns c = passes_fit
