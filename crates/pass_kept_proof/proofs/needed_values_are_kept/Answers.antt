use Rattle.pass_kept_proof.proofs.Main.{kept_corresponds}
use Rattle.pass_kept_proof.proofs.needed_values_are_kept.Goals as goal

pub returns : goal.returns
returns c = λ m keep sizes entry args answers ok keeps. kept_corresponds m keep sizes entry args answers ok keeps
