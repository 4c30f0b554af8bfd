use Rattle.pass_split_given.proofs.Agreeing.{given_splits_agree}
use Rattle.pass_split_given.proofs.whole.given_split_runs_agree.Goals as goal

pub returns : goal.returns
returns c = given_splits_agree
