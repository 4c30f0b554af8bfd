-- The first pass keeps the meaning of sources: its three passes in turn.
use Rattle.std.proofs.Common.{ℕ, List, sym, subst}
use Rattle.std.specs.Prelude.{ℤ}
use Rattle.rule_laws.proofs.run_agreement.Compose.{compose_within}
use Rattle.rule_laws.specs.run_agreement.Agreements.{AgreesWithin}
use Rattle.rule_laws.specs.run_agreement.Machines.{Seen}
use Rattle.pass_early_proof.proofs.early.begin_naming.Simulation.{named_agrees}
use Rattle.rule_laws.specs.ir_base.declared.outcome.Word.{Word}
use Rattle.rule_laws.specs.run_source.Source.{SourceAt}
use Rattle.pass_early_proof.proofs.early.renaming.Composition.{early_in_turn}
use Rattle.pass_early_proof.proofs.early.renaming.Rules.{all_regular}
use Rattle.pass_early_proof.proofs.early.renaming.Simulation.{renamed_agrees}
use Rattle.pass_early_proof.specs.early.renaming.Passes.{named_module, renamed_module}
use Rattle.pass_early_proof.specs.early.renaming.Regular.{AllKeepRules}
use Rattle.pass_early.specs.Early.{early_module}
use Rattle.pass_early_proof.proofs.early.meaning.Names.{named_locals, named_uses, renamed_locals, renamed_uses}
use Rattle.ir_model.specs.declared.module.Frame.{Frame}
use Rattle.ir_model.specs.declared.module.Module.{Module}
use Rattle.pass_early_proof.specs.early.saves.SavesWritten.{saves_written}
use Rattle.pass_early_proof.proofs.early.save_simulation.Simulation.{saves_agree}
use Rattle.rule_laws.specs.ir_laws.facts.sound_states.Named.{AreLocalsNamed, AreUsesNamed}

module _ (m : Module) (locals : AreLocalsNamed m) (uses : AreUsesNamed m) (rules : AllKeepRules (named_module m)) (sizes : List Frame) (entry : ℕ) (args : List Word) (answers : List ℤ) where
  abbrev runs : Module → ℕ → Seen
  runs k = SourceAt k sizes entry args answers

  abbrev second : Module
  second = renamed_module (named_module m)

  pub first_two : AgreesWithin 1 (runs m) (runs second)
  first_two =
      compose_within 1 1 (runs m) (runs (named_module m)) (runs second)
      (named_agrees m locals uses sizes entry args answers)
      (renamed_agrees (named_module m) (all_regular (named_module m) rules) sizes entry args answers)

  all_three : AgreesWithin 2 (runs m) (runs (saves_written second))
  all_three =
      compose_within 1 2 (runs m) (runs second) (runs (saves_written second))
      first_two
      (saves_agree second (renamed_locals (named_module m) (named_locals m locals)) (renamed_uses (named_module m) rules (named_uses m uses)) sizes entry args answers)

  pub early_agrees : AgreesWithin 2 (runs m) (runs (early_module m))
  early_agrees = subst (λ (k : Module). AgreesWithin 2 (runs m) (runs k)) (sym (early_in_turn m)) all_three
