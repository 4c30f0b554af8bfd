use Rattle.pass_early_proof.proofs.early.frames.Modules.{layouts_saved}
use Rattle.pass_early_proof.proofs.early.frames.layouts_stay_saved.Goals as goal

pub returns : goal.returns
returns c = layouts_saved
