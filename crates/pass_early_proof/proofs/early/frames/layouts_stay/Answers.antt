use Rattle.pass_early_proof.proofs.early.frames.Modules.{layouts_early}
use Rattle.pass_early_proof.proofs.early.frames.layouts_stay.Goals as goal

pub returns : goal.returns
returns c = layouts_early
