use Rattle.pass_exits_proof.proofs.split.crossing.Ways.{woven_end_first}
use Rattle.pass_exits_proof.proofs.split.crossing.woven_suspends_end_first.Goals as goal

pub returns : goal.returns
returns c = woven_end_first
