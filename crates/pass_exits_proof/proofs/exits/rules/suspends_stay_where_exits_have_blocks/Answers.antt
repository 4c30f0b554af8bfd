use Rattle.pass_exits_proof.proofs.exits.rules.Suspends.{same_suspends}
use Rattle.pass_exits_proof.proofs.exits.rules.suspends_stay_where_exits_have_blocks.Goals as goal

pub returns : goal.returns
returns c = same_suspends
