use Rattle.pass_elide_proof.proofs.StepCases.{leads_to}
use Rattle.pass_elide_proof.proofs.sound.steps_are_one_of_the_cases.Goals as goal

pub returns : goal.returns
returns c = leads_to
