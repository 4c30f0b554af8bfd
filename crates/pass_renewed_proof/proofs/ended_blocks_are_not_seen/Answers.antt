use Rattle.pass_renewed_proof.proofs.MutedSteps.{step_muted}
use Rattle.pass_renewed_proof.proofs.ended_blocks_are_not_seen.Goals as goal

pub returns : goal.returns
returns c = λ hides d w here new shown. step_muted hides d w new here shown
