use Rattle.pass_split_proof.proofs.steps.Given.{frame_given, given_related}
use Rattle.pass_split_proof.proofs.steps.given_values_leave_states_related.Goals as goal

pub returns-clause-values : goal.returns-clause-values
returns-clause-values c = given_related

pub returns-clause-frame : goal.returns-clause-frame
returns-clause-frame c = frame_given
