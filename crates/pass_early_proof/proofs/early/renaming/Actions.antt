-- An instruction with its uses renamed does the same where renamed values are the same.
use Rattle.std.proofs.Common.{◌≡◌, ℕ, Bool, List, [], ◌∷◌, refl, ap, ◌∙◌}
use Rattle.std.specs.Prelude.{map, Some, None, Option, slice_get, if◌then◌else◌, ◌&&◌}
use Rattle.rule_laws.specs.run_memory.Memory.{load, store}
use Rattle.rule_laws.specs.run_memory.declared.pointer.Pointer.{Pointer}
use Rattle.rule_laws.specs.run_memory.declared.pointer.Value.{Value}
use Rattle.rule_laws.specs.ir_base.declared.cause.Cause.{Cause}
use Rattle.pass_early.specs.Renaming.{renamed, renamed_arg, renamed_instr, renamed_term, renamed_value}
use Rattle.pass_early.specs.declared.renaming.Renaming.{Renaming}
use Rattle.rule_laws.specs.run_ints.Numbers.{binary}
use Rattle.ir_model.specs.Ty.{Ty, int, ptr}
use Rattle.ir_model.specs.declared.instr.Instr.{Instr}
use Rattle.ir_model.specs.declared.instr.Terminator.{Terminator}
use Rattle.ir_model.specs.declared.module.Module.{Module}
use Rattle.ir_model.specs.declared.module.Param.{Param}
use Rattle.ir_model.specs.declared.operand.Arg.{Arg}
use Rattle.ir_model.specs.declared.operand.Callee.{Callee}
use Rattle.ir_model.specs.declared.operand.Intrinsic.{Intrinsic}
use Rattle.ir_model.specs.declared.operand.Operand.{Operand}
use Rattle.rule_laws.specs.run_step.Step.{Action, AtInstr, AtTerm, Context, Coro, Done, Enter, Fetched, Nowhere, Return, Stuck, Work, action_of, branch, call, cast_to, chosen, compared, done, fits_function, fits_params, if_alignment, indirect_call, instr_action, intrinsic_call, same_result, set_memory, set_value, switch, term_action}
use Rattle.rule_laws.specs.run_step.Values.{Env, access_of, address, arg_values, distance, element, index_of, indices_of, number_at, operand_value, stored, value_in, value_of}
use Rattle.rule_laws.specs.run_laws.changed.Changed.{Each, operands_of, operands_of_term, operands_at, values_of}

abbrev pub renamed_fetched : Renaming → Fetched → Fetched
renamed_fetched r Nowhere = Nowhere
renamed_fetched r (AtInstr i) = AtInstr (renamed_instr r i)
renamed_fetched r (AtTerm t) = AtTerm (renamed_term r t)

-- a local has the value of the one that takes its place
abbrev pub IsSame : Renaming → Env → Operand → Type 0
IsSame r env (Operand.Local n) = value_in env (renamed_value r n) ≡ value_in env n
IsSame r env _ = Unit {0}

pub same_operand : (r : Renaming) (m : Module) (env : Env) (ty : Ty) (x : Operand) → IsSame r env x → operand_value m env ty (renamed r x) ≡ operand_value m env ty x
same_operand r m env ty (Operand.Local n) h = h
same_operand r m env ty (Operand.Global n) h = refl
same_operand r m env ty (Operand.Number z) h = refl
same_operand r m env ty Operand.True h = refl
same_operand r m env ty Operand.False h = refl
same_operand r m env ty Operand.Null h = refl
same_operand r m env ty Operand.None h = refl
same_operand r m env ty Operand.Poison h = refl

pub same_args : (r : Renaming) (m : Module) (env : Env) (args : List Arg) → Each (IsSame r env) (values_of args) → arg_values m env (map (renamed_arg r) args) ≡ arg_values m env args
same_args r m env [] h = refl
same_args r m env (a ∷ args) h = λ i. same_operand r m env a.ty a.value h.0 i ∷ same_args r m env args h.1 i

same_indices : (r : Renaming) (m : Module) (env : Env) (args : List Arg) → Each (IsSame r env) (values_of args) → indices_of m env (map (renamed_arg r) args) ≡ indices_of m env args
same_indices r m env [] h = refl
same_indices r m env (a ∷ args) h = λ i. index_of (number_at a.ty (same_operand r m env a.ty a.value h.0 i)) ∷ same_indices r m env args h.1 i

same_fit : (r : Renaming) (args : List Arg) (params : List Param) → fits_params (map (renamed_arg r) args) params ≡ fits_params args params
same_fit r [] [] = refl
same_fit r [] (p ∷ params) = refl
same_fit r (a ∷ args) [] = refl
same_fit r (a ∷ args) (p ∷ params) = ap (λ (b : Bool). same_result (Some a.ty) (Some p.ty) && b) (same_fit r args params)

same_fits : (r : Renaming) (ty : Option Ty) (args : List Arg) (f : Option _) → fits_function ty (map (renamed_arg r) args) f ≡ fits_function ty args f
same_fits r ty args None = refl
same_fits r ty args (Some f) = ap (λ (b : Bool). same_result ty f.result && b) (same_fit r args f.params)

-- P is what is done with the action: it makes nothing of the names in a coro intrinsic's arguments
module _ (r : Renaming) (c : Context) (w : Work) {A : Type 0} (P : Action → A) (coro : (i : Intrinsic) (args : List Arg) (result : Option ℕ) → Each (IsSame r w.values) (values_of args) → P (Coro i (map (renamed_arg r) args) result) ≡ P (Coro i args result)) where
  same_intrinsic_call : (i : Intrinsic) (result : Option ℕ) (args : List Arg) → Each (IsSame r w.values) (values_of args) → P (intrinsic_call c w i result (map (renamed_arg r) args) (arg_values c.code w.values (map (renamed_arg r) args))) ≡ P (intrinsic_call c w i result args (arg_values c.code w.values args))
  same_intrinsic_call Intrinsic.LifetimeStart result args h = λ k. P (intrinsic_call c w Intrinsic.LifetimeStart result args (same_args r c.code w.values args h k))
  same_intrinsic_call Intrinsic.LifetimeEnd result args h = λ k. P (intrinsic_call c w Intrinsic.LifetimeEnd result args (same_args r c.code w.values args h k))
  same_intrinsic_call Intrinsic.MemcpyI64 result args h = λ k. P (intrinsic_call c w Intrinsic.MemcpyI64 result args (same_args r c.code w.values args h k))
  same_intrinsic_call Intrinsic.MemcpyI32 result args h = λ k. P (intrinsic_call c w Intrinsic.MemcpyI32 result args (same_args r c.code w.values args h k))
  same_intrinsic_call i result args h = coro i args result h

  same_indirect : (v : Value) (ty : Option Ty) (result : Option ℕ) (must_tail : Bool) (args : List Arg) (vs : List Value) → indirect_call c v ty result must_tail (map (renamed_arg r) args) vs ≡ indirect_call c v ty result must_tail args vs
  same_indirect (Value.Ptr (Pointer.Func f)) ty result must_tail args vs = λ k. if same_fits r ty args (slice_get c.code.functions f) k then Enter f vs result must_tail else Stuck Cause.Call
  same_indirect (Value.Ptr Pointer.Null) ty result must_tail args vs = refl
  same_indirect (Value.Ptr (Pointer.At b o)) ty result must_tail args vs = refl
  same_indirect Value.Poison ty result must_tail args vs = refl
  same_indirect (Value.Int x) ty result must_tail args vs = refl

  same_call : (result : Option ℕ) (must_tail : Bool) (ty : Option Ty) (callee : Callee) (args : List Arg) → Each (IsSame r w.values) (operands_of (Instr.Call result must_tail ty callee args)) → P (instr_action c w (renamed_instr r (Instr.Call result must_tail ty callee args))) ≡ P (instr_action c w (Instr.Call result must_tail ty callee args))
  same_call result must_tail ty (Callee.Named n) args h = λ k. P (call c w result must_tail ty (Callee.Named n) args (same_args r c.code w.values args h k))
  same_call result must_tail ty (Callee.Allocator a) args h = λ k. P (call c w result must_tail ty (Callee.Allocator a) args (same_args r c.code w.values args h k))
  same_call result must_tail ty (Callee.Intrinsic i) args h = same_intrinsic_call i result args h
  same_call result must_tail ty (Callee.Local name) args h =
      ap P (same_indirect (value_in w.values (renamed_value r name)) ty result must_tail args (arg_values c.code w.values (map (renamed_arg r) args)))
      ∙ (λ k. P (indirect_call c (h.0 k) ty result must_tail args (same_args r c.code w.values args h.1 k)))

  pub same_instr : (i : Instr) → Each (IsSame r w.values) (operands_of i) → P (instr_action c w (renamed_instr r i)) ≡ P (instr_action c w i)
  same_instr (Instr.Binary name op flags ty a b) h = λ k.
      P (done (λ n. set_value w name (value_of n)) (binary op flags (number_at ty (same_operand r c.code w.values ty a h.0 k)) (number_at ty (same_operand r c.code w.values ty b h.1.0 k))))
  same_instr (Instr.Icmp name pred ty a b) h = λ k. P (compared c w name pred ty (same_operand r c.code w.values ty a h.0 k) (same_operand r c.code w.values ty b h.1.0 k))
  same_instr (Instr.Select name x a b) h = λ k.
      P (Done (set_value w name (chosen (same_operand r c.code w.values (int 1) x h.0 k) (same_operand r c.code w.values a.ty a.value h.1.0 k) (same_operand r c.code w.values b.ty b.value h.1.1.0 k))))
  same_instr (Instr.Cast name op nneg arg to) h = λ k. P (Done (set_value w name (cast_to op nneg (number_at arg.ty (same_operand r c.code w.values arg.ty arg.value h.0 k)) to)))
  same_instr (Instr.Alloca name ty align) h = refl
  same_instr (Instr.Load name ty p align) h = λ k.
      P (if_alignment align (done (set_value w name) (load c.rights w.world.memory (address (same_operand r c.code w.values ptr p h.0 k)) (access_of ty) align)))
  same_instr (Instr.Store arg p align) h = λ k.
      P (if_alignment align (done (set_memory w) (store c.rights w.world.memory (address (same_operand r c.code w.values ptr p h.1.0 k)) (stored (access_of arg.ty) (same_operand r c.code w.values arg.ty arg.value h.0 k)) (access_of arg.ty) align)))
  same_instr (Instr.Gep name inbounds ty base indices) h = λ k.
      P (Done (set_value w name (element w.world.memory inbounds (same_operand r c.code w.values ptr base h.0 k) (distance c.code ty (same_indices r c.code w.values indices h.1 k)))))
  same_instr (Instr.Call result must_tail ty callee args) h = same_call result must_tail ty callee args h

  same_term : (t : Terminator) → Each (IsSame r w.values) (operands_of_term t) → P (term_action c w (renamed_term r t)) ≡ P (term_action c w t)
  same_term (Terminator.Jump label) h = refl
  same_term (Terminator.Branch x a b) h = λ k. P (branch (same_operand r c.code w.values (int 1) x h.0 k) a b)
  same_term (Terminator.Switch arg default cases) h = λ k. P (switch c.code (same_operand r c.code w.values arg.ty arg.value h.0 k) default cases)
  same_term (Terminator.Ret None) h = refl
  same_term (Terminator.Ret (Some arg)) h = λ k. P (Return (Some (same_operand r c.code w.values arg.ty arg.value h.0 k)))
  same_term Terminator.Unreachable h = refl

  pub same_action : (here : Fetched) → Each (IsSame r w.values) (operands_at here) → P (action_of c w (renamed_fetched r here)) ≡ P (action_of c w here)
  same_action Nowhere h = refl
  same_action (AtInstr i) h = same_instr i h
  same_action (AtTerm t) h = same_term t h
