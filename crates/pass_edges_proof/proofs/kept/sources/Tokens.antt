-- What an instruction makes and its step doesn't give is a token (rules Y1 and Y2), so it is of no scalar type.
use Rattle.std.proofs.Common.{◌≡◌, ℕ, Bool, true, false, List, Option, Some, None, refl, sym, ap, ◌∙◌, subst}
use Rattle.std.specs.Prelude.{◌==◌, ◌&&◌, if◌then◌else◌}
use Rattle.pass_early_proof.proofs.ir_laws.facts.Truth.{and_first}
use Rattle.pass_early_proof.specs.ir_parts.Contents.{result_of}
use Rattle.ir_model.specs.Ty.{Ty, array, int, named, ptr, structure, token}
use Rattle.ir_model.specs.declared.instr.Instr.{Instr}
use Rattle.ir_model.specs.declared.module.Module.{Module}
use Rattle.ir_model.specs.declared.operand.Allocator.{Allocator}
use Rattle.ir_model.specs.declared.operand.Arg.{Arg}
use Rattle.ir_model.specs.declared.operand.Callee.{Callee}
use Rattle.ir_model.specs.declared.operand.Intrinsic.{Intrinsic}
use Rattle.pass_kept_proof.specs.Needed.{given_by, given_by_allocator, given_by_intrinsic}
use Rattle.pass_early_proof.specs.rule_types.Signatures.{are_wanted, fits_callee, is_result}
use Rattle.pass_early_proof.specs.rule_types.Wants.{allocator_params, allocator_result, intrinsic_params, intrinsic_result}
use Rattle.pass_early_proof.specs.rule_values.Fits.{fits_kind, is_scalar}
use Rattle.pass_early_proof.specs.rule_values.Kinds.{instr_kind, result_kind}
use Rattle.pass_early_proof.specs.rule_values.declared.kinds.Kind.{Kind}

-- a kind that is of no integer type and no address
abbrev pub IsNoScalar : Option Kind → Type 0
IsNoScalar o = (t : Ty) → is_scalar t ≡ true → fits_kind o t ≡ true → ⊥

none_fits : IsNoScalar None
none_fits t s h = absurd (cc)

other_fits : IsNoScalar (Some Kind.Other)
other_fits t s h = absurd (cc)

token_fits : (t : Ty) → is_scalar t ≡ true → t ≡ token → ⊥
token_fits t s e = let k : is_scalar token ≡ true = ap is_scalar (sym e) ∙ s in absurd (cc)

token_no_scalar : IsNoScalar (Some Kind.Token)
token_no_scalar (int w) s h = absurd (cc)
token_no_scalar ptr s h = absurd (cc)
token_no_scalar token s h = absurd (cc)
token_no_scalar (array n t) s h = absurd (cc)
token_no_scalar (structure ts) s h = absurd (cc)
token_no_scalar (named n) s h = absurd (cc)

saved_no_scalar : IsNoScalar (Some Kind.Saved)
saved_no_scalar (int w) s h = absurd (cc)
saved_no_scalar ptr s h = absurd (cc)
saved_no_scalar token s h = absurd (cc)
saved_no_scalar (array n t) s h = absurd (cc)
saved_no_scalar (structure ts) s h = absurd (cc)
saved_no_scalar (named n) s h = absurd (cc)

if_no_scalar : (b : Bool) (kind : Kind) → IsNoScalar (Some kind) → IsNoScalar (if b then Some kind else None)
if_no_scalar true kind h = h
if_no_scalar false kind h = none_fits

-- a call of these types has no value
no_result : (callee : Callee) (ty : Option Ty) → is_result None ty ≡ true → IsNoScalar (Some (result_kind callee ty))
no_result callee None h = other_fits
no_result callee (Some t) h = absurd (cc)

-- what coro.id and coro.save make
pub token_typed : (t : Ty) → Rattle.pass_early_proof.specs.rule_types.Wants.is_token t ≡ true → t ≡ token
token_typed (int w) h = absurd (cc)
token_typed ptr h = absurd (cc)
token_typed token h = refl
token_typed (array n t) h = absurd (cc)
token_typed (structure ts) h = absurd (cc)
token_typed (named n) h = absurd (cc)

id_kind : (ty : Option Ty) → is_result (intrinsic_result Intrinsic.CoroId) ty ≡ true → IsNoScalar (Some (result_kind (Callee.Intrinsic Intrinsic.CoroId) ty))
id_kind None h = absurd (cc)
id_kind (Some t) h = subst (λ (u : Ty). IsNoScalar (Some (result_kind (Callee.Intrinsic Intrinsic.CoroId) (Some u)))) (sym (token_typed t h)) token_no_scalar

save_kind : (ty : Option Ty) → is_result (intrinsic_result Intrinsic.CoroSave) ty ≡ true → IsNoScalar (Some (result_kind (Callee.Intrinsic Intrinsic.CoroSave) ty))
save_kind None h = absurd (cc)
save_kind (Some t) h = saved_no_scalar

intrinsic_kind : (i : Intrinsic) (ty : Option Ty) (r : Option ℕ) (v : ℕ) → is_result (intrinsic_result i) ty ≡ true → r ≡ Some v → (given_by_intrinsic i r ≡ Some v → ⊥) → IsNoScalar (Some (result_kind (Callee.Intrinsic i) ty))
intrinsic_kind Intrinsic.CoroId ty r v h e none = id_kind ty h
intrinsic_kind Intrinsic.CoroSave ty r v h e none = save_kind ty h
intrinsic_kind Intrinsic.CoroResume ty r v h e none = no_result (Callee.Intrinsic Intrinsic.CoroResume) ty h
intrinsic_kind Intrinsic.CoroDestroy ty r v h e none = no_result (Callee.Intrinsic Intrinsic.CoroDestroy) ty h
intrinsic_kind Intrinsic.LifetimeStart ty r v h e none = no_result (Callee.Intrinsic Intrinsic.LifetimeStart) ty h
intrinsic_kind Intrinsic.LifetimeEnd ty r v h e none = no_result (Callee.Intrinsic Intrinsic.LifetimeEnd) ty h
intrinsic_kind Intrinsic.MemcpyI64 ty r v h e none = no_result (Callee.Intrinsic Intrinsic.MemcpyI64) ty h
intrinsic_kind Intrinsic.MemcpyI32 ty r v h e none = no_result (Callee.Intrinsic Intrinsic.MemcpyI32) ty h
intrinsic_kind _ ty r v h e none = absurd (none e)

allocator_kind : (a : Allocator) (ty : Option Ty) (r : Option ℕ) (v : ℕ) → is_result (allocator_result a) ty ≡ true → r ≡ Some v → (given_by_allocator a r ≡ Some v → ⊥) → IsNoScalar (Some (result_kind (Callee.Allocator a) ty))
allocator_kind Allocator.Malloc ty r v h e none = absurd (none e)
allocator_kind Allocator.Znwm ty r v h e none = absurd (none e)
allocator_kind Allocator.Free ty r v h e none = no_result (Callee.Allocator Allocator.Free) ty h
allocator_kind Allocator.ZdlPv ty r v h e none = no_result (Callee.Allocator Allocator.ZdlPv) ty h
allocator_kind Allocator.ZdlPvm ty r v h e none = no_result (Callee.Allocator Allocator.ZdlPvm) ty h

call_kind_is : (callee : Callee) (must_tail : Bool) (ty : Option Ty) (args : List Arg) (r : Option ℕ) (v : ℕ) → r ≡ Some v → IsNoScalar (Some (result_kind callee ty)) → IsNoScalar (instr_kind (Instr.Call r must_tail ty callee args) v)
call_kind_is callee must_tail ty args None v e h = absurd (cc)
call_kind_is callee must_tail ty args (Some r) v e h = if_no_scalar (r == v) (result_kind callee ty) h

-- the call of an instruction is of its callee's types
abbrev pub FitsCallee : Module → Instr → Type 0
FitsCallee m (Instr.Call r must_tail ty callee args) = fits_callee m ty args callee ≡ true
FitsCallee m i = Unit {0}

pub ungiven_kind : (m : Module) (i : Instr) (v : ℕ) → FitsCallee m i → result_of i ≡ Some v → (given_by i ≡ Some v → ⊥) → IsNoScalar (instr_kind i v)
ungiven_kind m (Instr.Call r must_tail ty (Callee.Intrinsic i) args) v h e none =
    call_kind_is (Callee.Intrinsic i) must_tail ty args r v e (intrinsic_kind i ty r v (and_first (is_result (intrinsic_result i) ty) (are_wanted (intrinsic_params i) args) h) e none)
ungiven_kind m (Instr.Call r must_tail ty (Callee.Allocator a) args) v h e none =
    call_kind_is (Callee.Allocator a) must_tail ty args r v e
    (allocator_kind a ty r v (and_first (is_result (allocator_result a) ty) (are_wanted (allocator_params a) args) (and_first (is_result (allocator_result a) ty && are_wanted (allocator_params a) args) _ h)) e none)
ungiven_kind m (Instr.Call r must_tail ty (Callee.Named n) args) v h e none = absurd (none e)
ungiven_kind m (Instr.Call r must_tail ty (Callee.Local n) args) v h e none = absurd (none e)
ungiven_kind m (Instr.Store arg p align) v h e none = absurd (cc)
ungiven_kind m (Instr.Binary name op flags ty a b) v h e none = absurd (none e)
ungiven_kind m (Instr.Icmp name pred ty a b) v h e none = absurd (none e)
ungiven_kind m (Instr.Select name x a b) v h e none = absurd (none e)
ungiven_kind m (Instr.Cast name op nneg arg to) v h e none = absurd (none e)
ungiven_kind m (Instr.Alloca name ty align) v h e none = absurd (none e)
ungiven_kind m (Instr.Load name ty p align) v h e none = absurd (none e)
ungiven_kind m (Instr.Gep name inbounds ty base indices) v h e none = absurd (none e)
