use Rattle.pass_split_proof.proofs.steps.SavedStates.{save_related, save_steps}
use Rattle.pass_split_proof.proofs.steps.saves_leave_states_related.Goals as goal

pub returns-clause-related : goal.returns-clause-related
returns-clause-related c g h s t r i x number code e mine begin held laid small suspend numbered led saved mode
    = save_related g h s t r i x number code e mine begin held laid small suspend numbered led saved mode

pub returns-clause-steps : goal.returns-clause-steps
returns-clause-steps c g h s t r i x number code e mine begin held laid small suspend numbered led saved running
    = save_steps g h s t r i x number code e mine begin held laid small suspend numbered led saved running
