-- Each run of what is lowered of an accepted source agrees with that of what its text stands for.
use Rattle.std.specs.Prelude.{ℕ, ℤ, Bool, List, None, Ok}
use Rattle.pass_proofs.specs.run_agreement.Agreements.{AgreesWithin}
use Rattle.text_canonical.specs.canonical.Items.{module_text}
use Rattle.ir_base.specs.declared.outcome.Word.{Word}
use Rattle.pass_cleanup.specs.Cleanup.{clean_module}
use Rattle.pass_split.specs.Parts.{split_module}
use Rattle.pass_proofs.specs.frame_contents.Frames.{AreLayouts}
use Rattle.pass_early.specs.Early.{early_module}
use Rattle.frame_layout.specs.declared.layout.Layouts.{Layouts}
use Rattle.pass_proofs.specs.rule_all.Refused.{IsRefused}
use Rattle.pass_proofs.specs.text_grammar.Text.{StandsFor}
use Rattle.ir_model.specs.declared.module.Module.{Module}
use Rattle.compiler.proofs.whole.names_apart.Lowered.{lowered_apart}
use Rattle.compiler.proofs.whole.printed_forms.Lowered.{lowered_shaped, lowered_stands}
use Rattle.pass_proofs.specs.rule_laws.rules.names_apart.Words.{AreNamesFew}
use Rattle.text_canonical.specs.order.Order.{module_order}
use Rattle.pass_proofs.specs.rule_names.declared.stage.Stage.{Stage}
use Rattle.compiler.proofs.order.meaning.Main.{order_agrees}
use Rattle.run_plain.specs.Plain.{PlainAt}
use Rattle.text_canonical.specs.grammar.Bytes.{AreBytes}
use Rattle.pass_frames.specs.Framed.{IsFramedForm}

pub printed_agrees : (text : List ℕ) (m : Module) → AreBytes text → StandsFor text m → IsRefused Stage.Source m None → (share : Bool) (layouts : Layouts) → AreLayouts m share (Ok layouts) → (n : Module) → IsFramedForm layouts (early_module m) n
    → AreNamesFew (clean_module (split_module layouts n)) → (entry : ℕ) (args : List Word) (answers : List ℤ)
    → StandsFor (module_text (clean_module (split_module layouts n))) (module_order (clean_module (split_module layouts n)))
    × AgreesWithin 1 (PlainAt (clean_module (split_module layouts n)) entry args answers) (PlainAt (module_order (clean_module (split_module layouts n))) entry args answers)
printed_agrees text m bytes stands accepted share layouts laid n framed few entry args answers = (
  lowered_stands text m bytes stands accepted share layouts laid n framed,
  order_agrees (clean_module (split_module layouts n)) (lowered_shaped text m bytes stands accepted share layouts laid n framed) (lowered_apart text m stands accepted layouts n framed few) entry args answers,
)
