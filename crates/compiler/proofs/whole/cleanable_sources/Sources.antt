-- What splitting gives of a source that breaks no rule is as the last pass asks.
use Rattle.std.specs.Prelude.{ℕ, Bool, List, None, Ok}
use Rattle.pass_cleanup.specs.Cleanable.{IsCleanable}
use Rattle.pass_split.specs.Parts.{split_module}
use Rattle.pass_proofs.specs.frame_contents.Frames.{AreLayouts}
use Rattle.pass_early.specs.Early.{early_module}
use Rattle.frame_layout.specs.declared.layout.Layouts.{Layouts}
use Rattle.pass_proofs.specs.rule_all.Refused.{IsRefused}
use Rattle.pass_proofs.specs.text_grammar.Text.{StandsFor}
use Rattle.ir_model.specs.declared.module.Module.{Module}
use Rattle.compiler.proofs.cleanup.cleanable.Whole.{split_cleanable}
use Rattle.compiler.proofs.whole.lowered_sources.Row.{is_ready}
use Rattle.pass_proofs.specs.rule_names.declared.stage.Stage.{Stage}
use Rattle.pass_frames.specs.Framed.{IsFramedForm}

pub sources_cleanable : (text : List ℕ) (m : Module) → StandsFor text m → IsRefused Stage.Source m None → (share : Bool) (layouts : Layouts) → AreLayouts m share (Ok layouts) → (n : Module) → IsFramedForm layouts (early_module m) n → IsCleanable (split_module layouts n)
sources_cleanable text m stands accepted share layouts laid n form = split_cleanable layouts n (is_ready text m stands accepted share layouts laid n form)
