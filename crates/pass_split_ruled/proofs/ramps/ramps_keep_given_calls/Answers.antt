use Rattle.pass_split_ruled.proofs.Rulers.{ramps_keep}
use Rattle.pass_split_ruled.proofs.ramps.ramps_keep_given_calls.Goals as goal

pub returns : goal.returns
returns c = ramps_keep
