-- A source that a text stands for and that breaks no rule keeps all that the first pass asks of it.
use Rattle.std.proofs.Common.{ℕ, List}
use Rattle.std.specs.Prelude.{ℤ, None}
use Rattle.rule_laws.specs.run_agreement.Agreements.{AgreesWithin}
use Rattle.rule_laws.specs.ir_base.declared.outcome.Word.{Word}
use Rattle.rule_laws.specs.run_source.Source.{SourceAt}
use Rattle.pass_early.specs.Early.{early_module}
use Rattle.pass_early_proof.proofs.early.meaning.Composition.{early_agrees}
use Rattle.pass_early_proof.proofs.early.source_rules.Accepted.{all_named_keep}
use Rattle.rule_laws.proofs.rules.sources.Tables.{all_tabled}
use Rattle.rule_laws.specs.rule_all.Refused.{IsRefused}
use Rattle.rule_laws.specs.text_grammar.Text.{StandsFor}
use Rattle.ir_model.specs.declared.module.Frame.{Frame}
use Rattle.ir_model.specs.declared.module.Module.{Module}
use Rattle.rule_laws.specs.rule_names.declared.stage.Stage.{Stage}
use Rattle.rule_laws.proofs.texts.named_texts.Placed.{locals_named, uses_named}

pub accepted_agree : (text : List ℕ) (m : Module) → StandsFor text m → IsRefused Stage.Source m None → (sizes : List Frame) (entry : ℕ) (args : List Word) (answers : List ℤ) → AgreesWithin 2 (SourceAt m sizes entry args answers) (SourceAt (early_module m) sizes entry args answers)
accepted_agree text m stands accepted =
    early_agrees m (locals_named text m stands) (uses_named text m stands) (all_named_keep m accepted (all_tabled text m stands))
