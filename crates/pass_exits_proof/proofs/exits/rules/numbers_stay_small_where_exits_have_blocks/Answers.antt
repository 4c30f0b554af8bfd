use Rattle.pass_exits_proof.proofs.exits.rules.Unnamed.{stays_small}
use Rattle.pass_exits_proof.proofs.exits.rules.numbers_stay_small_where_exits_have_blocks.Goals as goal

pub returns : goal.returns
returns c = stays_small
