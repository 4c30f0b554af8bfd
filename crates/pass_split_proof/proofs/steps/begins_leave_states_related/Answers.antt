use Rattle.pass_split_proof.proofs.steps.BegunStates.{begin_related, begin_steps}
use Rattle.pass_split_proof.proofs.steps.begins_leave_states_related.Goals as goal

pub returns-clause-related : goal.returns-clause-related
returns-clause-related c g h s t r p code x u size mine there fresh laid sized new roomy leads own mode
    = begin_related g h s t r p code x u size mine there fresh laid sized new roomy leads own mode

pub returns-clause-steps : goal.returns-clause-steps
returns-clause-steps c g h s t r p code x u size mine there fresh laid sized new roomy leads own running
    = begin_steps g h s t r p code x u size mine there fresh laid sized new roomy leads own running
