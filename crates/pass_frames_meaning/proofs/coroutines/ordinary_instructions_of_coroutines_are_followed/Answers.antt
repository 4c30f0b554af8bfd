use Rattle.pass_frames_meaning.proofs.coroutines.Steps.{quiet_followed, store_followed}
use Rattle.pass_frames_meaning.proofs.coroutines.ordinary_instructions_of_coroutines_are_followed.Goals as goal

pub returns-clause-quiet : goal.returns-clause-quiet
returns-clause-quiet c = quiet_followed

pub returns-clause-store : goal.returns-clause-store
returns-clause-store c = store_followed
