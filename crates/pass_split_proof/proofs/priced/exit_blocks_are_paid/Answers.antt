use Rattle.pass_split_proof.proofs.priced.Prices.{exits_paid}
use Rattle.pass_split_proof.proofs.priced.exit_blocks_are_paid.Goals as goal

pub returns : goal.returns
returns c = exits_paid
