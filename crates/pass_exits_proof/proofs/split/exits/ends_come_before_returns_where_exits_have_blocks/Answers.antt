use Rattle.pass_exits_proof.proofs.split.exits.Whole.{ended_first}
use Rattle.pass_exits_proof.proofs.split.exits.ends_come_before_returns_where_exits_have_blocks.Goals as goal

pub returns : goal.returns
returns c = λ m k f rules jumps coroutine switches. ended_first m k f rules jumps coroutine switches
