use Rattle.pass_elide_proof.proofs.Assembly.{assembled}
use Rattle.pass_elide_proof.proofs.LosingCalls.{loses}
use Rattle.pass_elide_proof.proofs.assembling.known_steps_keep_states.Goals as goal
use Rattle.pass_elide_proof.specs.Statement.{AreRelated}

pub returns-clause-states : goal.returns-clause-states
returns-clause-states c = λ e source most passes is waits knows entry args call.
    assembled e source most is waits entry args passes (AreRelated e) (knows entry args call)

pub returns-clause-calls : goal.returns-clause-calls
returns-clause-calls c = λ e source most passes is waits knows entry args call.
    loses e source most is waits entry args passes (AreRelated e) (knows entry args call)
