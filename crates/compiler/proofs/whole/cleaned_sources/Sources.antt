-- Each run of what splitting gives of an accepted source agrees with that of what is lowered.
use Rattle.std.specs.Prelude.{ℕ, ℤ, Bool, List, None, Ok}
use Rattle.pass_proofs.specs.run_agreement.Agreements.{AgreesWithin}
use Rattle.ir_base.specs.declared.outcome.Word.{Word}
use Rattle.pass_cleanup.proofs.Simulation.{clean_agrees}
use Rattle.pass_cleanup.specs.Cleanup.{clean_module}
use Rattle.pass_split.specs.Parts.{split_module}
use Rattle.pass_proofs.specs.frame_contents.Frames.{AreLayouts}
use Rattle.pass_early.specs.Early.{early_module}
use Rattle.frame_layout.specs.declared.layout.Layouts.{Layouts}
use Rattle.pass_proofs.specs.rule_all.Refused.{IsRefused}
use Rattle.pass_proofs.specs.text_grammar.Text.{StandsFor}
use Rattle.ir_model.specs.declared.module.Module.{Module}
use Rattle.compiler.proofs.whole.cleanable_sources.Sources.{sources_cleanable}
use Rattle.pass_proofs.specs.rule_names.declared.stage.Stage.{Stage}
use Rattle.run_plain.specs.Plain.{PlainAt}
use Rattle.pass_frames.specs.Framed.{IsFramedForm}

pub cleaned_agrees : (text : List ℕ) (m : Module) → StandsFor text m → IsRefused Stage.Source m None → (share : Bool) (layouts : Layouts) → AreLayouts m share (Ok layouts) → (n : Module) → IsFramedForm layouts (early_module m) n
    → (entry : ℕ) (args : List Word) (answers : List ℤ) → AgreesWithin 1 (PlainAt (split_module layouts n) entry args answers) (PlainAt (clean_module (split_module layouts n)) entry args answers)
cleaned_agrees text m stands accepted share layouts laid n framed = clean_agrees (split_module layouts n) (sources_cleanable text m stands accepted share layouts laid n framed)
