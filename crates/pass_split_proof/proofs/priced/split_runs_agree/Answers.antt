use Rattle.pass_split_proof.proofs.priced.Whole.{splits_agree}
use Rattle.pass_split_proof.proofs.priced.split_runs_agree.Goals as goal

pub returns : goal.returns
returns c = splits_agree
