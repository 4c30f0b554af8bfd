use Rattle.pass_elide_proof.proofs.Sized.{made_waits}
use Rattle.pass_elide_proof.proofs.waiting.made_values_are_waited_for.Goals as goal

pub returns : goal.returns
returns c = λ e s t result w r at. made_waits e s t result w r at
