-- Lemmas on followed, that speak of no pass.
use Rattle.std.proofs.Common.{◌≡◌, ℕ, Bool, true, false, ap, ◌∙◌}
use Rattle.std.specs.Prelude.{None, Some, ◌==◌, ◌&&◌, if◌then◌else◌}
use Rattle.ir_laws.specs.ir_base.declared.outcome.Place.{Place}
use Rattle.ir_laws.proofs.facts.Truth.{itself, and_first, holds}
use Rattle.ir_parts.specs.Parts.{OfInstr}
use Rattle.ir_laws.specs.ir_model.Ty.{Ty}
use Rattle.ir_laws.specs.ir_model.declared.instr.Instr.{Instr}
use Rattle.ir_laws.specs.ir_model.declared.module.Module.{Module}
use Rattle.ir_laws.specs.ir_model.declared.operand.Callee.{Callee}
use Rattle.ir_laws.specs.ir_model.declared.operand.Intrinsic.{Intrinsic}
use Rattle.ir_laws.specs.ir_paths.Windows.{is_call_of}
use Rattle.ir_laws.specs.run_laws.changed.Changed.{result_of}
use Rattle.rule_types.specs.Signatures.{are_wanted, calls_otherwise, is_result}
use Rattle.rule_types.specs.Wants.{intrinsic_params, is_ptr}
use Rattle.rule_types.specs.declared.wants.Basic.{Basic}
use Rattle.rule_values.specs.Kinds.{instr_kind, kind_if, kind_of}
use Rattle.rule_values.specs.declared.kinds.Kind.{Kind}
use Rattle.rule_laws.proofs.rules.replaced.Replaced.{is_the_ptr as ptr_is}

pub ptr_kind : (n v : ℕ) (t : Ty) → n ≡ v → is_ptr t ≡ true → kind_if n (kind_of t) v ≡ Some Kind.Ptr
ptr_kind n v t same e = (λ k. if same k == v then Some (kind_of (ptr_is t e k)) else None) ∙ ap (λ (b : Bool). if b then Some Kind.Ptr else None) (itself v)

pub begin_ptr : (m : Module) (p : Place) (i : Instr) (v : ℕ) → is_call_of Intrinsic.CoroBegin i ≡ true → result_of i ≡ Some v → calls_otherwise m p (OfInstr i) ≡ false → instr_kind i v ≡ Some Kind.Ptr
begin_ptr m p (Instr.Call (Some n) must_tail (Some t) (Callee.Intrinsic Intrinsic.CoroBegin) args) v is e h =
    let same : n ≡ v = cc in
    let right = holds (is_result (Some Basic.Ptr) (Some t) && are_wanted (intrinsic_params Intrinsic.CoroBegin) args) h in
    ptr_kind n v t same (and_first (is_ptr t) (are_wanted (intrinsic_params Intrinsic.CoroBegin) args) right)
begin_ptr m p (Instr.Call (Some n) must_tail None (Callee.Intrinsic Intrinsic.CoroBegin) args) v is e h = absurd (cc)
begin_ptr m p (Instr.Call None must_tail ty (Callee.Intrinsic Intrinsic.CoroBegin) args) v is e h = absurd (cc)
begin_ptr m p _ v is e h = absurd (cc)
