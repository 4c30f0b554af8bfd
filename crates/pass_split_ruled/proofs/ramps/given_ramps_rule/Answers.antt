use Rattle.pass_split_ruled.proofs.Rulers.{ramps_rule}
use Rattle.pass_split_ruled.proofs.ramps.given_ramps_rule.Goals as goal

pub returns : goal.returns
returns c = ramps_rule
