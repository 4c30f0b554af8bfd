-- A call that gives nothing has no result, by its types.
use Rattle.std.proofs.Common.{◌≡◌, ℕ, Bool, true, List, Option, Some, None, refl, sym, ap, ◌∙◌, ◌&&◌}
use Rattle.std.proofs.lemmas.Bool.{and_parts, false≢true}
use Rattle.pass_frames_proof.specs.ir_model.Ty.{Ty}
use Rattle.pass_frames_proof.specs.ir_model.declared.instr.Instr.{Instr}
use Rattle.pass_frames_proof.specs.ir_model.declared.module.Function.{Function}
use Rattle.pass_frames_proof.specs.ir_model.declared.module.Module.{Module}
use Rattle.pass_frames_proof.specs.ir_model.declared.operand.Allocator.{Allocator}
use Rattle.pass_frames_proof.specs.ir_model.declared.operand.Arg.{Arg}
use Rattle.pass_frames_proof.specs.ir_model.declared.operand.Callee.{Callee}
use Rattle.pass_frames_proof.specs.ir_model.declared.operand.Intrinsic.{Intrinsic}
use Rattle.pass_frames_proof.specs.rule_types.Signatures.{are_wanted, is_result}
use Rattle.pass_frames_proof.specs.rule_types.Wants.{allocator_params, allocator_result, intrinsic_params, intrinsic_result}
use Rattle.pass_frames_proof.specs.rule_types.declared.wants.Basic.{Basic}
use Rattle.pass_frames_proof.specs.rule_values.Instrs.{fits_result}
use Rattle.pass_frames_proof.specs.run_step.Step.{AtInstr, fetch}
use Rattle.pass_renewed_meaning.specs.run_types.Rules.{KeepsTypes}

no_type : (ty : Option Ty) → is_result None ty ≡ true → ty ≡ None
no_type None e = refl
no_type (Some t) e = absurd (false≢true e)

no_name : (callee : Callee) (ty : Option Ty) (result : Option ℕ) → ty ≡ None → fits_result callee ty result ≡ true
    → result ≡ None
no_name callee None None e h = refl
no_name callee None (Some r) e h = absurd (false≢true h)
no_name callee (Some t) r e h = absurd (cc)

module _ (m : Module) (f : Function) (types : KeepsTypes m f) (block at : ℕ) (result : Option ℕ) (must_tail : Bool)
    (ty : Option Ty) where
  void_call : (callee : Callee) (args : List Arg)
      → fetch f block at ≡ AtInstr (Instr.Call result must_tail ty callee args) → ty ≡ None → result ≡ None
  void_call callee args there none =
      no_name callee ty result none
      (and_parts (fits_result callee ty result) _ (types.instrs block at (Instr.Call result must_tail ty callee args) there)).0

  -- of an intrinsic
  pub void_intrinsic : (x : Intrinsic) (args : List Arg)
      → fetch f block at ≡ AtInstr (Instr.Call result must_tail ty (Callee.Intrinsic x) args)
      → intrinsic_result x ≡ None → result ≡ None
  void_intrinsic x args there none =
      let fit = types.calls block at result must_tail ty (Callee.Intrinsic x) args there in
      void_call (Callee.Intrinsic x) args there
      (no_type ty (ap (λ (o : Option Basic). is_result o ty) (sym none)
      ∙ (and_parts (is_result (intrinsic_result x) ty) (are_wanted (intrinsic_params x) args) fit).0))

  -- of a deallocator
  pub void_allocator : (x : Allocator) (args : List Arg)
      → fetch f block at ≡ AtInstr (Instr.Call result must_tail ty (Callee.Allocator x) args)
      → allocator_result x ≡ None → result ≡ None
  void_allocator x args there none =
      let fit = types.calls block at result must_tail ty (Callee.Allocator x) args there in
      let own = (and_parts (is_result (allocator_result x) ty && are_wanted (allocator_params x) args) _ fit).0 in
      void_call (Callee.Allocator x) args there
      (no_type ty (ap (λ (o : Option Basic). is_result o ty) (sym none)
      ∙ (and_parts (is_result (allocator_result x) ty) (are_wanted (allocator_params x) args) own).0))
