use Rattle.pass_early_proof.proofs.early.renaming.Rules.{all_regular}
use Rattle.pass_early_proof.proofs.early.renaming.Simulation.{renamed_agrees}
use Rattle.pass_early_proof.proofs.early.renaming.renaming_keeps_meaning.Goals as goal

pub returns : goal.returns
returns c = λ m rules. renamed_agrees m (all_regular m rules)
