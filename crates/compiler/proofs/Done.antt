-- What holds of whatever an accepted source is lowered to holds of what the lowering of a text comes to.
use Rattle.std.proofs.Common.{◌≡◌, ℕ, Bool, List, refl, sym, subst, Option, Some, None, Ok, Err}
use Rattle.std.specs.Prelude.{Result, IfOk}
use Rattle.ir_base.specs.declared.status.Options.{Options}
use Rattle.pass_proofs.specs.frame_contents.Frames.{AreLayouts}
use Rattle.frame_layout.specs.declared.layout.Layouts.{Layouts}
use Rattle.pass_proofs.specs.rule_all.Refused.{IsRefused}
use Rattle.pass_proofs.specs.text_grammar.Text.{StandsFor}
use Rattle.ir_model.specs.declared.module.Module.{Module}
use Rattle.text_parser.proofs.TextRead.{reading_of}
use Rattle.text_parser.specs.Parse.{read_module}
use Rattle.text_parser.specs.declared.text.Parsed.{Parsed}
use Rattle.compiler.specs.Lowering.{IsDone, IsLowering, IsLoweringBy, IsLoweringOf, IsModuleLowering, OfLowered}
use Rattle.compiler.specs.declared.lowered.Lowered.{Lowered}
use Rattle.compiler.specs.declared.lowered.Lowering.{Lowering}
use Rattle.frame_acceptance.specs.Acceptance.{ComesOf, IsAcceptance}
use Rattle.frame_acceptance.specs.declared.accepting.Acceptance.{Acceptance}
use Rattle.pass_proofs.specs.rule_modules.declared.order.Refusal.{Refusal}
use Rattle.pass_proofs.specs.rule_names.declared.stage.Stage.{Stage}

-- an accepted source is refused for nothing, and its frames have these layouts
pub record IsAccepted (m : Module) (share : Bool) (layouts : Layouts) : Type 0 where
  pub refused : IsRefused Stage.Source m None
  pub laid : AreLayouts m share (Ok layouts)

accepted_is : (m : Module) (share : Bool) (layouts : Layouts) → IsAcceptance m share (Acceptance.Accepted layouts) → IsAccepted m share layouts
accepted_is m share layouts a = on a.refusal a.refused a.comes
  where
    on : (o : Option Refusal) → IsRefused Stage.Source m o → ComesOf m share o (Acceptance.Accepted layouts) → IsAccepted m share layouts
    on (Some r) refused comes = absurd comes
    on None refused comes = record { refused = refused; laid = comes }

-- whatever an accepted source that the text stands for is lowered to has a property
abbrev pub HoldsWhereDone : (Lowered → Type 0) → List ℕ → Type 0
HoldsWhereDone P text = (m : Module) → StandsFor text m → (share : Bool) (layouts : Layouts) (l : Lowered) → IsAccepted m share layouts → IsDone m layouts l → P l

module_holds : (P : Lowered → Type 0) (m : Module) (share : Bool) → ((layouts : Layouts) (l : Lowered) → IsAccepted m share layouts → IsDone m layouts l → P l) → (l : Lowering) → IsModuleLowering share m l → OfLowered P l
module_holds P m share holds l h = on h.acceptance l h.accepted h.comes
  where
    on : (a : Acceptance) (x : Lowering) → IsAcceptance m share a → IsLoweringBy m a x → OfLowered P x
    on (Acceptance.Accepted layouts) (Lowering.Done d) accepted comes = holds layouts d (accepted_is m share layouts accepted) comes
    on (Acceptance.Accepted layouts) (Lowering.Syntax items) accepted comes = tt
    on (Acceptance.Accepted layouts) (Lowering.Refused n rule place) accepted comes = tt
    on (Acceptance.Refused r) x accepted comes = subst (OfLowered P) (sym comes) tt

text_holds : (P : Lowered → Type 0) (options : Options) (text : List ℕ) → HoldsWhereDone P text → (l : Lowering) → IsLowering options text l → OfLowered P l
unfolding IsLowering
text_holds P options text holds l h = on (read_module text) refl h
  where
    on : (p : Parsed) → p ≡ read_module text → IsLoweringOf options.share p l → OfLowered P l
    on (Parsed.Syntax items) e k = subst (OfLowered P) (sym k) tt
    on (Parsed.Module m) e k = module_holds P m options.share (holds m (reading_of text (Parsed.Module m) e) options.share) l k

pub lowering_holds : {E : Type 0} (P : Lowered → Type 0) (options : Options) (text : List ℕ) → HoldsWhereDone P text → (r : Result Lowering E) → IfOk r (λ l. IsLowering options text l) → IfOk r (λ l. OfLowered P l)
lowering_holds P options text holds (Ok l) h = text_holds P options text holds l h
lowering_holds P options text holds (Err e) h = h
