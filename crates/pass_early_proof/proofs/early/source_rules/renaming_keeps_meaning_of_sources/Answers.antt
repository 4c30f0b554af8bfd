use Rattle.pass_early_proof.proofs.early.renaming.Rules.{all_regular}
use Rattle.pass_early_proof.proofs.early.renaming.Simulation.{renamed_agrees}
use Rattle.pass_early_proof.specs.early.renaming.Passes.{named_module}
use Rattle.pass_early_proof.proofs.early.source_rules.Accepted.{all_named_keep}
use Rattle.pass_early_proof.proofs.early.source_rules.renaming_keeps_meaning_of_sources.Goals as goal

pub returns : goal.returns
returns c = λ m accepted tabled. renamed_agrees (named_module m) (all_regular (named_module m)
    (all_named_keep m accepted tabled))
