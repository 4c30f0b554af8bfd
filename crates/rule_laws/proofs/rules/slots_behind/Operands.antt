-- Which operands K9 leaves out: accesses, markers and coro.id, whose further operands are constants.
use Rattle.std.proofs.Common.{◌≡◌, ℕ, Bool, true, false, List, [], ◌∷◌, refl, arith, suc}
use Rattle.std.specs.List.{Any}
use Rattle.std.specs.Prelude.{Option, ℤ, ◌&&◌}
use Rattle.rule_laws.specs.rules.begin_order.Behind.{besides_second, other_operands}
use Rattle.ir_laws.proofs.facts.Truth.{and_first, and_second, holds}
use Rattle.ir_parts.specs.Contents.{arg_operands}
use Rattle.ir_parts.specs.Parts.{OfInstr}
use Rattle.ir_laws.specs.ir_model.Ty.{Ty}
use Rattle.ir_laws.specs.ir_model.declared.instr.Instr.{Instr}
use Rattle.ir_laws.specs.ir_model.declared.module.Module.{Module}
use Rattle.ir_laws.specs.ir_model.declared.operand.Arg.{Arg}
use Rattle.ir_laws.specs.ir_model.declared.operand.Callee.{Callee}
use Rattle.ir_laws.specs.ir_model.declared.operand.Intrinsic.{Intrinsic}
use Rattle.ir_laws.specs.ir_model.declared.operand.Operand.{Operand}
use Rattle.rule_all.specs.rule_slots.Early.{other_uses}
use Rattle.ir_laws.specs.run_laws.changed.Changed.{Each}
use Rattle.rule_types.specs.Signatures.{are_wanted, calls_otherwise, is_result}
use Rattle.rule_types.specs.Wants.{any, intrinsic_params, intrinsic_result, is_basic, meets, want}
use Rattle.rule_types.specs.declared.wants.Basic.{Basic}
use Rattle.rule_types.specs.declared.wants.Demand.{Demand}
use Rattle.rule_types.specs.declared.wants.Wanted.{Wanted}
use Rattle.rule_laws.proofs.rules.woven_rules.Unbroken.{Passes}

-- what holds of no element doesn't hold of each
pub each_unless : {A : Type 0} (P : A → Type 0) (xs : List A) → (Any P xs → ⊥) → Each (λ (x : A). P x → ⊥) xs
each_unless P [] h = tt
each_unless P (x ∷ xs) h = ((λ p. h (0, x, omega arith, refl, p)), each_unless P xs (λ a. let lt = a.2 in h (suc a.0, a.1, omega (arith, lt), a.3, a.4)))

-- what markers and coro.id want
abbrev wants_size : Wanted
wants_size = want Basic.I64 Demand.Number

abbrev wants_slot : Wanted
wants_slot = any Basic.Ptr

abbrev wants_align : Wanted
wants_align = want Basic.I32 Demand.AlignOrZero

abbrev wants_null : Wanted
wants_null = want Basic.Ptr Demand.Null

-- an argument that the table wants is what it asks for
wanted : (w : Wanted) (ws : List Wanted) (a : Arg) (args : List Arg) → are_wanted (w ∷ ws) (a ∷ args) ≡ true → (meets w.value a.value ≡ true) × (are_wanted ws args ≡ true)
wanted w ws a args e =
    let one : Bool = is_basic w.ty a.ty in
    let two : Bool = meets w.value a.value in
    let rest : Bool = are_wanted ws args in
    (and_second one two (and_first (one && two) rest e), and_second (one && two) rest e)

module _ (P : Operand → Type 0) (numbers : (z : ℤ) → P (Operand.Number z)) (null : P Operand.Null) where
  met_number : (x : Operand) → meets Demand.Number x ≡ true → P x
  met_number (Operand.Number z) e = numbers z
  met_number (Operand.Local v) e = absurd (cc)
  met_number (Operand.Global n) e = absurd (cc)
  met_number Operand.True e = absurd (cc)
  met_number Operand.False e = absurd (cc)
  met_number Operand.Null e = absurd (cc)
  met_number Operand.None e = absurd (cc)
  met_number Operand.Poison e = absurd (cc)

  met_align : (x : Operand) → meets Demand.AlignOrZero x ≡ true → P x
  met_align (Operand.Number z) e = numbers z
  met_align (Operand.Local v) e = absurd (cc)
  met_align (Operand.Global n) e = absurd (cc)
  met_align Operand.True e = absurd (cc)
  met_align Operand.False e = absurd (cc)
  met_align Operand.Null e = absurd (cc)
  met_align Operand.None e = absurd (cc)
  met_align Operand.Poison e = absurd (cc)

  met_null : (x : Operand) → meets Demand.Null x ≡ true → P x
  met_null Operand.Null e = null
  met_null (Operand.Number z) e = absurd (cc)
  met_null (Operand.Local v) e = absurd (cc)
  met_null (Operand.Global n) e = absurd (cc)
  met_null Operand.True e = absurd (cc)
  met_null Operand.False e = absurd (cc)
  met_null Operand.None e = absurd (cc)
  met_null Operand.Poison e = absurd (cc)

  marker_args : (args : List Arg) → are_wanted (intrinsic_params Intrinsic.LifetimeStart) args ≡ true → Each P (besides_second args)
  marker_args [] e = absurd (cc)
  marker_args (a ∷ []) e = let t : false ≡ true = (wanted wants_size (wants_slot ∷ []) a [] e).1 in absurd (cc)
  marker_args (a ∷ b ∷ []) e = (met_number a.value (wanted wants_size (wants_slot ∷ []) a (b ∷ []) e).0, tt)
  marker_args (a ∷ b ∷ c ∷ args) e = let t : false ≡ true = (wanted wants_slot [] b (c ∷ args) (wanted wants_size (wants_slot ∷ []) a (b ∷ c ∷ args) e).1).1 in absurd (cc)

  null_args : (args : List Arg) → are_wanted (wants_null ∷ wants_null ∷ []) args ≡ true → Each P (arg_operands args)
  null_args [] e = absurd (cc)
  null_args (a ∷ []) e = let t : false ≡ true = (wanted wants_null (wants_null ∷ []) a [] e).1 in absurd (cc)
  null_args (a ∷ b ∷ []) e = let x = wanted wants_null (wants_null ∷ []) a (b ∷ []) e in (met_null a.value x.0, (met_null b.value (wanted wants_null [] b [] x.1).0, tt))
  null_args (a ∷ b ∷ c ∷ args) e = let t : false ≡ true = (wanted wants_null [] b (c ∷ args) (wanted wants_null (wants_null ∷ []) a (b ∷ c ∷ args) e).1).1 in absurd (cc)

  id_args : (args : List Arg) → are_wanted (intrinsic_params Intrinsic.CoroId) args ≡ true → Each P (besides_second args)
  id_args [] e = absurd (cc)
  id_args (a ∷ []) e = let t : false ≡ true = (wanted wants_align (wants_slot ∷ wants_null ∷ wants_null ∷ []) a [] e).1 in absurd (cc)
  id_args (a ∷ b ∷ args) e =
      let x = wanted wants_align (wants_slot ∷ wants_null ∷ wants_null ∷ []) a (b ∷ args) e in
      (met_align a.value x.0, null_args args (wanted wants_slot (wants_null ∷ wants_null ∷ []) b args x.1).1)

  calls_wanted : (m : Module) (r : Option ℕ) (must_tail : Bool) (ty : Option Ty) (x : Intrinsic) (args : List Arg) → Passes (calls_otherwise m) (OfInstr (Instr.Call r must_tail ty (Callee.Intrinsic x) args)) → are_wanted (intrinsic_params x) args ≡ true
  calls_wanted m r must_tail ty x args h =
      let result : Bool = is_result (intrinsic_result x) ty in
      let fit : Bool = are_wanted (intrinsic_params x) args in
      and_second result fit (holds (result && fit) h.1)

  pub others_used : (m : Module) (i : Instr) → Passes (calls_otherwise m) (OfInstr i) → Each P (other_uses i) → Each P (other_operands i)
  others_used m (Instr.Load r ty x align) h u = tt
  others_used m (Instr.Store a x align) h u = u
  others_used m (Instr.Call r must_tail ty (Callee.Intrinsic Intrinsic.MemcpyI64) args) h u = tt
  others_used m (Instr.Call r must_tail ty (Callee.Intrinsic Intrinsic.MemcpyI32) args) h u = tt
  others_used m (Instr.Call r must_tail ty (Callee.Intrinsic Intrinsic.LifetimeStart) args) h u = marker_args args (calls_wanted m r must_tail ty Intrinsic.LifetimeStart args h)
  others_used m (Instr.Call r must_tail ty (Callee.Intrinsic Intrinsic.LifetimeEnd) args) h u = marker_args args (calls_wanted m r must_tail ty Intrinsic.LifetimeEnd args h)
  others_used m (Instr.Call r must_tail ty (Callee.Intrinsic Intrinsic.CoroId) args) h u = id_args args (calls_wanted m r must_tail ty Intrinsic.CoroId args h)
  others_used m i h u = u
