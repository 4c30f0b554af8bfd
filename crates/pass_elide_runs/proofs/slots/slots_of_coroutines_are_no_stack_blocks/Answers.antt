use Rattle.pass_elide_runs.proofs.SlotKinds.{kinds_in_runs}
use Rattle.pass_elide_runs.proofs.slots.slots_of_coroutines_are_no_stack_blocks.Goals as goal

pub returns : goal.returns
returns c g entry args n fine = kinds_in_runs g entry args n fine
