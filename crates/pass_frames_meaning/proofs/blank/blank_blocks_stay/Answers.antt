use Rattle.pass_frames_meaning.proofs.blank.Renewed.{renewed_keeps_blank, renewed_keeps_early}
use Rattle.pass_frames_meaning.proofs.blank.Steps.{step_stays}
use Rattle.pass_frames_meaning.proofs.blank.blank_blocks_stay.Goals as goal

pub returns-clause-step : goal.returns-clause-step
returns-clause-step c = step_stays

pub returns-clause-hooks : goal.returns-clause-hooks
returns-clause-hooks c = renewed_keeps_blank

pub returns-clause-slots : goal.returns-clause-slots
returns-clause-slots c = renewed_keeps_early
