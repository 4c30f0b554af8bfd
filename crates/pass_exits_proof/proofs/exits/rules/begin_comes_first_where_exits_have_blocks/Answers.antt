use Rattle.pass_exits_proof.proofs.exits.rules.Kept.{all_begun}
use Rattle.pass_exits_proof.proofs.exits.rules.begin_comes_first_where_exits_have_blocks.Goals as goal

pub returns : goal.returns
returns c = λ m k f begin rules jumps. all_begun m k f rules jumps begin
