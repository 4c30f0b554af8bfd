use Rattle.pass_exits_proof.proofs.exits.rules.Whole.{same_begin}
use Rattle.pass_exits_proof.proofs.exits.rules.begin_stays_where_exits_have_blocks.Goals as goal

pub returns : goal.returns
returns c = same_begin
