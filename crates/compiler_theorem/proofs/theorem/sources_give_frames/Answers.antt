use Rattle.compiler_theorem.proofs.theorem.Framing.{sources_given}
use Rattle.compiler_theorem.proofs.theorem.sources_give_frames.Goals as goal

pub returns : goal.returns
returns c = sources_given
