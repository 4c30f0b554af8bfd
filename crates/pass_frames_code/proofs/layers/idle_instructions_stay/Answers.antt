use Rattle.pass_frames_code.proofs.layers.Idle.{all_stay, both_idle, state_stays}
use Rattle.pass_frames_code.proofs.layers.idle_instructions_stay.Goals as goal

pub returns-clause-instrs : goal.returns-clause-instrs
returns-clause-instrs g c = all_stay

pub returns-clause-state : goal.returns-clause-state
returns-clause-state g c = state_stays

pub returns-clause-both : goal.returns-clause-both
returns-clause-both g c = both_idle
