use Rattle.pass_early_proof.proofs.early.frames.Modules.{layouts_renamed}
use Rattle.pass_early_proof.proofs.early.frames.layouts_stay_renamed.Goals as goal

pub returns : goal.returns
returns c = layouts_renamed
