use Rattle.pass_early_proof.proofs.early.renaming.Rules.{all_regular}
use Rattle.pass_early_proof.proofs.early.renaming.Simulation.{renamed_corresponds}
use Rattle.pass_early_proof.proofs.early.early_states.renaming_keeps_states.Goals as goal

pub returns : goal.returns
returns c = λ m rules. renamed_corresponds m (all_regular m rules)
