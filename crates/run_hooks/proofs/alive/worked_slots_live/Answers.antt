use Rattle.run_hooks.proofs.alive.worked_slots_live.Goals as goal
use Rattle.run_hooks.specs.alive.Worked as worked

pub returns : goal.returns
returns c = worked.computes
