use Rattle.pass_early_proof.proofs.early.frames.Modules.{layouts_named}
use Rattle.pass_early_proof.proofs.early.frames.layouts_stay_named.Goals as goal

pub returns : goal.returns
returns c = layouts_named
