use Rattle.pass_frames_steps.proofs.saving.Saved.{save_followed}
use Rattle.pass_frames_steps.proofs.saving.saves_are_followed.Goals as goal

pub returns : goal.returns
returns c = save_followed
