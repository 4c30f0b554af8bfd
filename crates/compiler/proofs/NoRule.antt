-- What is lowered breaks no rule of modules without coroutines, and its framed form may be split.
use Rattle.std.proofs.Common.{ℕ, Bool, List, sym, subst, None}
use Rattle.std.specs.Prelude.{Result, IfOk}
use Rattle.ir_base.specs.declared.status.Options.{Options}
use Rattle.frame_layout.specs.declared.layout.Layouts.{Layouts}
use Rattle.pass_proofs.specs.rule_all.Refused.{IsRefused}
use Rattle.pass_proofs.specs.text_grammar.Text.{StandsFor}
use Rattle.ir_model.specs.declared.module.Module.{Module}
use Rattle.compiler.proofs.Done.{IsAccepted, lowering_holds}
use Rattle.compiler.proofs.NoCoroutine.{split_all_plain, split_calls_id}
use Rattle.compiler.specs.Lowering.{IsDone, IsLowering}
use Rattle.compiler.specs.NoRule.{BreaksNoRule, IsFramed}
use Rattle.compiler.specs.declared.lowered.Lowered.{Lowered}
use Rattle.compiler.specs.declared.lowered.Lowering.{Lowering}
use Rattle.compiler.proofs.whole.lowered_sources.Row.{all_accepted, is_ready}
use Rattle.compiler.specs.cleanup.accepted.Ready.{IsReady}
use Rattle.pass_proofs.specs.rule_names.declared.stage.Stage.{Stage}

done_breaks_none : (text : List ℕ) (m : Module) → StandsFor text m → (share : Bool) (layouts : Layouts) (l : Lowered) → IsAccepted m share layouts → IsDone m layouts l → IsRefused Stage.Plain l.«module» None
done_breaks_none text m stands share layouts l a d =
    subst (λ (x : Lowered). IsRefused Stage.Plain x.«module» None) (sym d.is)
    (all_accepted text m stands a.refused share layouts a.laid d.framed d.is_framed (split_all_plain layouts d.framed) (split_calls_id layouts d.framed))

done_is_framed : (text : List ℕ) (m : Module) → StandsFor text m → (share : Bool) (layouts : Layouts) (l : Lowered) → IsAccepted m share layouts → IsDone m layouts l → IsReady l.layouts l.framed
done_is_framed text m stands share layouts l a d =
    subst (λ (x : Lowered). IsReady x.layouts x.framed) (sym d.is) (is_ready text m stands a.refused share layouts a.laid d.framed d.is_framed)

pub lowering_breaks_none : {E : Type 0} (options : Options) (text : List ℕ) (r : Result Lowering E) → IfOk r (λ l. IsLowering options text l) → IfOk r (λ l. BreaksNoRule l)
lowering_breaks_none options text r h = lowering_holds (λ l. IsRefused Stage.Plain l.«module» None) options text (done_breaks_none text) r h

pub lowering_is_framed : {E : Type 0} (options : Options) (text : List ℕ) (r : Result Lowering E) → IfOk r (λ l. IsLowering options text l) → IfOk r (λ l. IsFramed l)
lowering_is_framed options text r h = lowering_holds (λ l. IsReady l.layouts l.framed) options text (done_is_framed text) r h
