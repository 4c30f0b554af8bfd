use Rattle.pass_elide_proof.proofs.PlacingKnown.{first_known, states_known, step_known}
use Rattle.pass_elide_proof.proofs.PlacingStarts.{begins_of}
use Rattle.pass_elide_proof.proofs.placing.framed_states_are_known.Goals as goal

pub returns-clause-start : goal.returns-clause-start
returns-clause-start c = first_known

pub returns-clause-step : goal.returns-clause-step
returns-clause-step c = λ g s begins h. step_known g begins s h

pub returns-clause-runs : goal.returns-clause-runs
returns-clause-runs c = λ g entry args n begins. states_known g begins entry args n

pub returns-clause-begins : goal.returns-clause-begins
returns-clause-begins c = begins_of
