use Rattle.pass_exits_proof.proofs.split.front_rules.Paths.{ends_kept}
use Rattle.pass_exits_proof.proofs.split.front_rules.ends_come_before_returns_behind_front_allocas.Goals as goal

pub returns : goal.returns
returns c = ends_kept
