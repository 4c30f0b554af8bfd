-- The layouts of an accepted source's frames stay under the first pass.
use Rattle.std.proofs.Common.{ℕ, Bool, List, ◌↔◌}
use Rattle.std.specs.Prelude.{None, Result}
use Rattle.rule_laws.specs.frame_contents.Frames.{AreLayouts}
use Rattle.rule_laws.specs.frame_contents.declared.module_frames.LayoutsError.{LayoutsError}
use Rattle.pass_early_proof.proofs.early.frames.Modules.{layouts_early}
use Rattle.pass_early_proof.proofs.early.frames.NoParams.{accepted_apart}
use Rattle.pass_early.specs.Early.{early_module}
use Rattle.pass_early_proof.proofs.early.source_rules.Accepted.{all_named_keep}
use Rattle.rule_laws.proofs.rules.sources.Tables.{all_tabled}
use Rattle.rule_laws.specs.frame_layout.declared.layout.Layouts.{Layouts}
use Rattle.rule_laws.specs.rule_all.Refused.{IsRefused}
use Rattle.rule_laws.specs.text_grammar.Text.{StandsFor}
use Rattle.ir_model.specs.declared.module.Module.{Module}
use Rattle.rule_laws.specs.rule_names.declared.stage.Stage.{Stage}
use Rattle.rule_laws.proofs.texts.named_texts.Placed.{locals_named, uses_named}

pub accepted_laid : (text : List ℕ) (m : Module) → StandsFor text m → IsRefused Stage.Source m None → (share : Bool) (result : Result Layouts LayoutsError) → AreLayouts m share result ↔ AreLayouts (early_module m) share result
accepted_laid text m stands accepted =
    layouts_early m (locals_named text m stands) (uses_named text m stands) (all_named_keep m accepted (all_tabled text m stands))
    (accepted_apart m accepted (locals_named text m stands))
