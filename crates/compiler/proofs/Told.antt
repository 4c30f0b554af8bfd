-- What the lowering comes to, where the acceptance or the framed form is told.
use Rattle.std.proofs.Common.{◌≡◌, ℕ, Bool, List, refl, subst, Ok, Err}
use Rattle.std.specs.Prelude.{Result, IfOk}
use Rattle.ir_base.specs.declared.status.Options.{Options}
use Rattle.pass_early.specs.Early.{early_module}
use Rattle.frame_layout.specs.declared.layout.Layouts.{Layouts}
use Rattle.ir_model.specs.declared.module.Module.{Module}
use Rattle.text_parser.specs.Parse.{read_module}
use Rattle.text_parser.specs.declared.text.Parsed.{Parsed}
use Rattle.compiler.specs.Lowering.{IsDone, IsLowering, IsLoweringBy, IsLoweringOf, IsModuleLowering, lowered_by}
use Rattle.compiler.specs.declared.lowered.Lowered.{Lowered}
use Rattle.compiler.specs.declared.lowered.Lowering.{Lowering}
use Rattle.frame_acceptance.specs.Acceptance.{IsAcceptance}
use Rattle.frame_acceptance.specs.declared.accepting.Acceptance.{Acceptance}
use Rattle.pass_frames.specs.Framed.{IsFramedForm}

pub done_by : {E : Type 0} (m : Module) (layouts : Layouts) (framed : Module) (r : Result Lowered E) → IsFramedForm layouts (early_module m) framed → IfOk r (λ l. l ≡ lowered_by m layouts framed) → IfOk r (λ l. IsDone m layouts l)
done_by m layouts framed (Ok l) is_framed is = record { framed = framed; is_framed = is_framed; is = is }
done_by m layouts framed (Err e) is_framed is = is

pub lowered_as : {E : Type 0} (share : Bool) (m : Module) (a : Acceptance) (r : Result Lowering E) → IsAcceptance m share a → IfOk r (λ l. IsLoweringBy m a l) → IfOk r (λ l. IsModuleLowering share m l)
lowered_as share m a (Ok l) accepted comes = record { acceptance = a; accepted = accepted; comes = comes }
lowered_as share m a (Err e) accepted comes = comes

pub syntax_is_told : (options : Options) (text : List ℕ) (items : ℕ) → Parsed.Syntax items ≡ read_module text → IsLowering options text (Lowering.Syntax items)
unfolding IsLowering
syntax_is_told options text items e = subst (λ (p : Parsed). IsLoweringOf options.share p (Lowering.Syntax items)) e refl

pub module_is_told : {E : Type 0} (options : Options) (text : List ℕ) (m : Module) (r : Result Lowering E) → Parsed.Module m ≡ read_module text → IfOk r (λ l. IsModuleLowering options.share m l) → IfOk r (λ l. IsLowering options text l)
unfolding IsLowering
module_is_told options text m (Ok l) e is = subst (λ (p : Parsed). IsLoweringOf options.share p l) e is
module_is_told options text m (Err x) e is = is
