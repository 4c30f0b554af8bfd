-- What the calls give keeps the meaning, since it is what the definitions say.
use Rattle.std.proofs.Common.{◌≡◌, ℕ, true, ap, subst, sym, ◌∙◌, Ok, Err}
use Rattle.std.specs.Prelude.{IfOk, Result}
use Rattle.compiler.proofs.NoCoroutine.{split_calls_id}
use Rattle.compiler.specs.frame_layout.declared.layout.Layouts.{Layouts}
use Rattle.compiler.specs.ir_model.declared.module.Module.{Module}
use Rattle.compiler.specs.pass_cleanup.Free.{calls_id_alone}
use Rattle.compiler.specs.pass_early.Early.{early_module}
use Rattle.compiler.specs.pass_frames.Framed.{IsFramedForm}
use Rattle.compiler.specs.pass_split.Parts.{split_module}
use Rattle.compiler_theorem.proofs.calls.Signatures.{signatures_kept}
use Rattle.compiler_theorem.proofs.theorem.Whole.{frames_kept, parts_kept}
use Rattle.compiler_theorem.specs.Calls.{IsBuiltOf, KeepsFrames, KeepsParts, KeepsSignatures, MayBeBuilt}
use Rattle.compiler_theorem.specs.theorem.Entries.{IsEntry, IsEntryCall, Run}
use Rattle.compiler_theorem.specs.theorem.Lowered.{Lowered, split_from}

pub built_keeps : {E : Type 0} (source : Module) (layouts : Layouts) (result : Result Module E)
    → IfOk result (λ framed. IsFramedForm layouts (early_module source) framed)
    → IfOk result (λ framed. (l : Lowered) → MayBeBuilt l → l.source ≡ source → l.layouts ≡ layouts → l.framed ≡ framed
    → (r : Run) → IsEntryCall l.source r → KeepsFrames l r)
built_keeps source layouts (Ok m) form = λ l may s ls f r call. frames_kept l (record {
  source = may.source;
  laid = may.laid;
  is_framed = subst (λ (q : Layouts × (Module × Module)). IsFramedForm q.0 (early_module q.1.0) q.1.1)
      (λ j. (sym ls j, (sym s j, sym f j))) form;
  few = may.names;
}) may.few r call
built_keeps source layouts (Err e) form = tt

pub split_frees : {E : Type 0} (ls : Layouts) (m : Module) (result : Result Module E)
    → IfOk result (λ x. x ≡ split_module ls m) → IfOk result (λ x. calls_id_alone x ≡ true)
split_frees ls m (Ok x) is = ap calls_id_alone is ∙ split_calls_id ls m
split_frees ls m (Err e) is = tt

pub split_signs : {E : Type 0} (ls : Layouts) (m : Module) (result : Result Module E)
    → IfOk result (λ x. x ≡ split_module ls m) → IfOk result (λ x. KeepsSignatures m x)
split_signs ls m (Ok x) is = subst (λ (y : Module). KeepsSignatures m y) (sym is) (signatures_kept ls m)
split_signs ls m (Err e) is = tt

pub split_keeps : {E : Type 0} (ls : Layouts) (m : Module) (result : Result Module E)
    → IfOk result (λ x. x ≡ split_module ls m)
    → IfOk result (λ x. (l : Lowered) → IsBuiltOf l → l.layouts ≡ ls → l.framed ≡ m → (r : Run) (other : ℕ)
    → IsEntryCall l.source r → IsEntry l.source x r.entry other → KeepsParts l r x other)
split_keeps ls m (Ok x) is = λ l built layouts framed r other call entry.
    let same : x ≡ split_from l l.framed = is ∙ (λ j. split_module (sym layouts j) (sym framed j)) in
    subst (λ (y : Module). KeepsParts l r y other) (sym same)
    (parts_kept l built.lowered built.few r other call
    (subst (λ (y : Module). IsEntry l.source y r.entry other) same entry))
split_keeps ls m (Err e) is = tt
