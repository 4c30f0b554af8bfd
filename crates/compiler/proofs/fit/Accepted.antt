-- So it is in sources that break no rule.
use Rattle.std.proofs.Common.{◌≡◌, ℕ, Bool, List, None, Some, Ok}
use Rattle.std.specs.Prelude.{slice_get}
use Rattle.pass_proofs.specs.frame_contents.Frames.{AreLayouts}
use Rattle.frame_good.proofs.Frames.{layouts_good}
use Rattle.frame_good.specs.Frames.{AreGood, HasFitFields}
use Rattle.frame_layout.specs.declared.layout.Layouts.{Layouts}
use Rattle.pass_proofs.proofs.rule_laws.rules.local_rules.Accepted.{accepted_breaks_none}
use Rattle.pass_proofs.proofs.rule_laws.rules.source_rules.Order.{unbroken}
use Rattle.pass_proofs.proofs.rule_laws.rules.widths.Written.{text_wide}
use Rattle.ir_model.specs.declared.module.Function.{Function}
use Rattle.ir_model.specs.declared.module.Module.{Module}
use Rattle.pass_proofs.specs.rule_all.Refused.{IsRefused}
use Rattle.pass_proofs.specs.rule_names.declared.stage.Stage.{Stage}
use Rattle.pass_proofs.specs.text_grammar.Text.{StandsFor}
use Rattle.compiler.proofs.fit.Fields.{fields_fit}

pub accepted_fit : (text : List ℕ) (m : Module) → StandsFor text m → IsRefused Stage.Source m None
    → (k : ℕ) (f : Function) → slice_get m.functions k ≡ Some f → HasFitFields m f
accepted_fit text m stands accepted k f there =
    fields_fit m k f (text_wide text m stands k f there)
    ((accepted_breaks_none m accepted).functions k f there).extents (unbroken m k f accepted there).locals

pub accepted_good : (text : List ℕ) (m : Module) (share : Bool) (layouts : Layouts) → StandsFor text m
    → IsRefused Stage.Source m None → AreLayouts m share (Ok layouts) → AreGood m 0 m.functions layouts.coroutines
accepted_good text m share layouts stands accepted h = layouts_good m share layouts
    (λ k f there is. accepted_fit text m stands accepted k f there) h
