use Rattle.pass_early_proof.proofs.early.save_states.States.{branches_same}
use Rattle.pass_early_proof.proofs.early.save_states.branches_are_kept.Goals as goal

pub returns : goal.returns
returns c = branches_same
