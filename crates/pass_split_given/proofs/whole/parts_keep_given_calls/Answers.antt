use Rattle.pass_split_given.proofs.Agreeing.{given_calls_kept}
use Rattle.pass_split_given.proofs.whole.parts_keep_given_calls.Goals as goal

pub returns : goal.returns
returns c = given_calls_kept
