use Rattle.pass_elide_proof.proofs.PassedAlone.{passes}
use Rattle.pass_elide_proof.proofs.ending.passed_values_are_waited_for.Goals as goal

pub returns : goal.returns
returns c = passes
