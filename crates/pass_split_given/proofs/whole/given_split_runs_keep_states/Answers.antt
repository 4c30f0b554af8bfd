use Rattle.pass_split_given.proofs.Agreeing.{given_splits_keep}
use Rattle.pass_split_given.proofs.whole.given_split_runs_keep_states.Goals as goal

pub returns : goal.returns
returns c = given_splits_keep
