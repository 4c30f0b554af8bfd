use Rattle.pass_exits_proof.proofs.split.exits.Whole.{crossing_kept}
use Rattle.pass_exits_proof.proofs.split.exits.no_more_crosses_where_exits_have_blocks.Goals as goal

pub returns : goal.returns
returns c = λ m k f rules jumps coroutine switches. crossing_kept m k f rules jumps coroutine switches
