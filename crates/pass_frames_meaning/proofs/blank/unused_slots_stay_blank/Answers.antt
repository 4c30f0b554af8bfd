use Rattle.pass_frames_meaning.proofs.blank.States.{blank_after, blank_first}
use Rattle.pass_frames_meaning.proofs.blank.unused_slots_stay_blank.Goals as goal

pub returns-clause-first : goal.returns-clause-first
returns-clause-first c = blank_first

pub returns-clause-step : goal.returns-clause-step
returns-clause-step c = blank_after
