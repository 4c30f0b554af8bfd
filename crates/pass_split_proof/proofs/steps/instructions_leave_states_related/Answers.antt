use Rattle.pass_split_proof.proofs.steps.Settled.{settled_related, settles}
use Rattle.pass_split_proof.proofs.steps.instructions_leave_states_related.Goals as goal

pub returns-clause-related : goal.returns-clause-related
returns-clause-related c = settled_related

pub returns-clause-step : goal.returns-clause-step
returns-clause-step c = settles
