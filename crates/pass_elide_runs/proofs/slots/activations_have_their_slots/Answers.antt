use Rattle.pass_elide_runs.proofs.SlotSteps.{slots_in_runs}
use Rattle.pass_elide_runs.proofs.slots.activations_have_their_slots.Goals as goal

pub returns : goal.returns
returns c g entry args n firsts knows switches begins fine =
    slots_in_runs g firsts knows switches begins entry args n fine
