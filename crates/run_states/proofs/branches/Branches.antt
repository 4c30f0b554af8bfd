-- No instruction branches.
use Rattle.std.proofs.Common.{ℕ, Bool, true, false, List}
use Rattle.std.specs.Prelude.{Some, None, Ok, Err, Option, Result, slice_get, if◌then◌else◌}
use Rattle.ir_laws.specs.run_memory.Memory.{compare, copy, load, store}
use Rattle.ir_laws.specs.run_memory.declared.pointer.Pointer.{Pointer}
use Rattle.ir_laws.specs.run_memory.declared.pointer.Value.{Value}
use Rattle.ir_laws.specs.ir_base.declared.cause.Cause.{Cause}
use Rattle.ir_laws.specs.ir_base.declared.ops.Pred.{Pred}
use Rattle.ir_laws.specs.ir_base.declared.outcome.Word.{Word}
use Rattle.ir_laws.specs.run_ints.Numbers.{binary}
use Rattle.ir_laws.specs.ir_model.Layout.{size_of}
use Rattle.ir_laws.specs.ir_model.Names.{declaration_named, function_named}
use Rattle.ir_laws.specs.ir_model.Ty.{Ty, array, int, named, ptr, structure, token}
use Rattle.ir_laws.specs.ir_model.declared.instr.Instr.{Instr}
use Rattle.ir_laws.specs.ir_model.declared.operand.Allocator.{Allocator}
use Rattle.ir_laws.specs.ir_model.declared.operand.Arg.{Arg}
use Rattle.ir_laws.specs.ir_model.declared.operand.Callee.{Callee}
use Rattle.ir_laws.specs.ir_model.declared.operand.Intrinsic.{Intrinsic}
use Rattle.ir_laws.specs.run_step.Step.{Action, Context, Done, Enter, GoTo, Stuck, Work, alloca, allocated, allocator_call, by_pred, compared, copied_bytes, done, fits_function, if_alignment, indirect_call, instr_action, intrinsic_call, is_alignment, named_call, observed, set_memory, set_value, value_at, with_length, words_of}
use Rattle.ir_laws.specs.run_step.Values.{access_of, address, arg_value, arg_values, nth, number_at, stored, truth_value, value_in, value_of}

abbrev pub IsNoBranch : Action → Type 0
IsNoBranch (GoTo label) = ⊥
IsNoBranch _ = Unit {0}

done_none : {A : Type 0} (f : A → Work) (r : Result A Cause) → IsNoBranch (done f r)
done_none f (Err cause) = tt
done_none f (Ok a) = tt

aligned_none : (align : ℕ) (a : Action) → IsNoBranch a → IsNoBranch (if_alignment align a)
aligned_none align a h = on (is_alignment align)
  where
    on : (b : Bool) → IsNoBranch (if b then a else Stuck Cause.Align)
    on true = h
    on false = tt

length_none : (v : Value) (go : ℕ → Action) → ((n : ℕ) → IsNoBranch (go n)) → IsNoBranch (with_length v go)
length_none (Value.Int n) go h = h n.bits
length_none Value.Poison go h = tt
length_none (Value.Ptr p) go h = tt

module _ (c : Context) (w : Work) where
  compared_none : (name : ℕ) (pred : Pred) (ty : Ty) (a b : Value) → IsNoBranch (compared c w name pred ty a b)
  compared_none name pred (int n) a b = tt
  compared_none name pred ptr a b = done_none (λ same. set_value w name (truth_value (by_pred pred same))) (compare c.rights w.world.memory (address a) (address b))
  compared_none name pred token a b = done_none (λ same. set_value w name (truth_value (by_pred pred same))) (compare c.rights w.world.memory (address a) (address b))
  compared_none name pred (array n t) a b = done_none (λ same. set_value w name (truth_value (by_pred pred same))) (compare c.rights w.world.memory (address a) (address b))
  compared_none name pred (structure ts) a b = done_none (λ same. set_value w name (truth_value (by_pred pred same))) (compare c.rights w.world.memory (address a) (address b))
  compared_none name pred (named n) a b = done_none (λ same. set_value w name (truth_value (by_pred pred same))) (compare c.rights w.world.memory (address a) (address b))

  observed_none : (d : ℕ) (ty : Option Ty) (result : Option ℕ) (args : Option (List Word)) → IsNoBranch (observed c w d ty result args)
  observed_none d ty result None = tt
  observed_none d None result (Some args) = tt
  observed_none d (Some ty) result (Some args) = tt

  named_none : (f d : Option ℕ) (ty : Option Ty) (result : Option ℕ) (must_tail : Bool) (vs : List Value) → IsNoBranch (named_call c w f d ty result must_tail vs)
  named_none (Some f) d ty result must_tail vs = tt
  named_none None (Some d) ty result must_tail vs = observed_none d ty result (words_of vs)
  named_none None None ty result must_tail vs = tt

  indirect_none : (v : Value) (ty : Option Ty) (result : Option ℕ) (must_tail : Bool) (args : List Arg) (vs : List Value) → IsNoBranch (indirect_call c v ty result must_tail args vs)
  indirect_none (Value.Ptr (Pointer.Func f)) ty result must_tail args vs = on (fits_function ty args (slice_get c.code.functions f))
    where
      on : (b : Bool) → IsNoBranch (if b then Enter f vs result must_tail else Stuck Cause.Call)
      on true = tt
      on false = tt
  indirect_none (Value.Ptr Pointer.Null) ty result must_tail args vs = tt
  indirect_none (Value.Ptr (Pointer.At b o)) ty result must_tail args vs = tt
  indirect_none Value.Poison ty result must_tail args vs = tt
  indirect_none (Value.Int x) ty result must_tail args vs = tt

  allocator_none : (a : Allocator) (result : Option ℕ) (vs : List Value) → IsNoBranch (allocator_call a w result vs)
  allocator_none Allocator.Malloc result vs = length_none (nth vs 0) (λ n. Done (allocated w result n)) (λ n. tt)
  allocator_none Allocator.Znwm result vs = length_none (nth vs 0) (λ n. Done (allocated w result n)) (λ n. tt)
  allocator_none Allocator.Free result vs = tt
  allocator_none Allocator.ZdlPv result vs = tt
  allocator_none Allocator.ZdlPvm result vs = tt

  copied_none : (vs : List Value) → IsNoBranch (copied_bytes c w vs)
  copied_none vs = length_none (nth vs 2) (λ n. done (set_memory w) (copy c.rights w.world.memory (address (nth vs 0)) (address (nth vs 1)) n)) (λ n. done_none (set_memory w) (copy c.rights w.world.memory (address (nth vs 0)) (address (nth vs 1)) n))

  intrinsic_none : (j : Intrinsic) (result : Option ℕ) (args : List Arg) (vs : List Value) → IsNoBranch (intrinsic_call c w j result args vs)
  intrinsic_none Intrinsic.LifetimeStart result args vs = tt
  intrinsic_none Intrinsic.LifetimeEnd result args vs = tt
  intrinsic_none Intrinsic.MemcpyI64 result args vs = copied_none vs
  intrinsic_none Intrinsic.MemcpyI32 result args vs = copied_none vs
  intrinsic_none j result args vs = tt

  pub instr_none : (i : Instr) → IsNoBranch (instr_action c w i)
  instr_none (Instr.Binary name op flags ty a b) = done_none (λ n. set_value w name (value_of n)) (binary op flags (number_at ty (value_at c w ty a)) (number_at ty (value_at c w ty b)))
  instr_none (Instr.Icmp name pred ty a b) = compared_none name pred ty (value_at c w ty a) (value_at c w ty b)
  instr_none (Instr.Select name x a b) = tt
  instr_none (Instr.Cast name op nneg arg to) = tt
  instr_none (Instr.Alloca name ty align) = aligned_none align (alloca c w name (size_of c.code ty) align) tt
  instr_none (Instr.Load name ty p align) = aligned_none align (done (set_value w name) (load c.rights w.world.memory (address (value_at c w ptr p)) (access_of ty) align)) (done_none (set_value w name) (load c.rights w.world.memory (address (value_at c w ptr p)) (access_of ty) align))
  instr_none (Instr.Store arg p align) =
      let r = store c.rights w.world.memory (address (value_at c w ptr p)) (stored (access_of arg.ty) (arg_value c.code w.values arg)) (access_of arg.ty) align in
      aligned_none align (done (set_memory w) r) (done_none (set_memory w) r)
  instr_none (Instr.Gep name inbounds ty base indices) = tt
  instr_none (Instr.Call result must_tail ty (Callee.Named n) args) = named_none (function_named c.code n) (declaration_named c.code n) ty result must_tail (arg_values c.code w.values args)
  instr_none (Instr.Call result must_tail ty (Callee.Allocator a) args) = allocator_none a result (arg_values c.code w.values args)
  instr_none (Instr.Call result must_tail ty (Callee.Intrinsic j) args) = intrinsic_none j result args (arg_values c.code w.values args)
  instr_none (Instr.Call result must_tail ty (Callee.Local name) args) = indirect_none (value_in w.values name) ty result must_tail args (arg_values c.code w.values args)
