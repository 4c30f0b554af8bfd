use Rattle.pass_early_proof.proofs.early.save_states.Suspends.{gives_behind}
use Rattle.pass_early_proof.proofs.early.save_states.suspends_come_behind.Goals as goal

pub returns : goal.returns
returns c = gives_behind
