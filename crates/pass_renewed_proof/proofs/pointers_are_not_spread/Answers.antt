use Rattle.pass_renewed_proof.proofs.ShownSteps.{step_shown}
use Rattle.pass_renewed_proof.proofs.pointers_are_not_spread.Goals as goal

pub returns : goal.returns
returns c = λ hides d w here new shown operands. step_shown hides d w shown here new operands
