-- What an instruction does that enters a function, or is a coro intrinsic.
use Rattle.std.proofs.Common.{◌≡◌, ℕ, Bool, true, false, List, Option, Some, None, Result, Ok, Err, refl, if◌then◌else◌}
use Rattle.std.specs.Prelude.{slice_get}
use Rattle.pass_frames_proof.specs.ir_base.declared.cause.Cause.{Cause}
use Rattle.pass_frames_proof.specs.ir_base.declared.ops.Pred.{Pred}
use Rattle.pass_frames_proof.specs.ir_base.declared.outcome.Word.{Word}
use Rattle.pass_frames_proof.specs.ir_model.Names.{declaration_named, function_named}
use Rattle.pass_frames_proof.specs.ir_model.Ty.{Ty, array, int, named, ptr, structure, token}
use Rattle.pass_frames_proof.specs.ir_model.declared.instr.Instr.{Instr}
use Rattle.pass_frames_proof.specs.ir_model.declared.operand.Allocator.{Allocator}
use Rattle.pass_frames_proof.specs.ir_model.declared.operand.Arg.{Arg}
use Rattle.pass_frames_proof.specs.ir_model.declared.operand.Callee.{Callee}
use Rattle.pass_frames_proof.specs.ir_model.declared.operand.Intrinsic.{Intrinsic}
use Rattle.pass_frames_proof.specs.ir_parts.Contents.{result_of}
use Rattle.pass_frames_meaning.specs.Called.{IsCalling}
use Rattle.pass_frames_proof.specs.run_memory.Memory.{compare, copy}
use Rattle.pass_frames_proof.specs.run_memory.declared.pointer.Pointer.{Pointer}
use Rattle.pass_frames_proof.specs.run_memory.declared.pointer.Value.{Value}
use Rattle.pass_frames_proof.specs.run_step.Step.{Action, Context, Coro, Enter, GoTo, Return, Stuck, Work, allocator_call, compared, copied_bytes, done, fits_function, if_alignment, indirect_call, instr_action, intrinsic_call, is_alignment, named_call, observed, set_memory, with_length, words_of}
use Rattle.pass_frames_proof.specs.run_step.Values.{address, arg_values, nth, value_in}

-- a call enters with the name of its result, and an intrinsic is that of its call
abbrev pub Comes : Instr → Action → Type 0
Comes i (Enter func args result must_tail) = IsCalling i × (result_of i ≡ result)
Comes i (Coro x args result) =
    (must_tail : Bool) × (ty : Option Ty) × (i ≡ Instr.Call result must_tail ty (Callee.Intrinsic x) args)
Comes i (GoTo label) = ⊥
Comes i (Return v) = ⊥
Comes i _ = Unit {0}

done_comes : {A : Type 0} (i : Instr) (f : A → Work) (r : Result A Cause) → Comes i (done f r)
done_comes i f (Err cause) = tt
done_comes i f (Ok a) = tt

if_comes : (i : Instr) (align : ℕ) (a : Action) → Comes i a → Comes i (if_alignment align a)
if_comes i align a h = on (is_alignment align)
  where
    on : (t : Bool) → Comes i (if t then a else Stuck Cause.Align)
    on true = h
    on false = tt

length_comes : (i : Instr) (v : Value) (f : ℕ → Action) → ((n : ℕ) → Comes i (f n)) → Comes i (with_length v f)
length_comes i (Value.Int y) f h = h y.bits
length_comes i Value.Poison f h = tt
length_comes i (Value.Ptr p) f h = tt

module _ (c : Context) (w : Work) where
  compared_comes : (i : Instr) (name : ℕ) (pred : Pred) (ty : Ty) (a b : Value) → Comes i (compared c w name pred ty a b)
  compared_comes i name pred (int n) a b = tt
  compared_comes i name pred ptr a b = done_comes i _ (compare c.rights w.world.memory (address a) (address b))
  compared_comes i name pred token a b = done_comes i _ (compare c.rights w.world.memory (address a) (address b))
  compared_comes i name pred (array n ty) a b = done_comes i _ (compare c.rights w.world.memory (address a) (address b))
  compared_comes i name pred (structure ts) a b = done_comes i _ (compare c.rights w.world.memory (address a) (address b))
  compared_comes i name pred (named n) a b = done_comes i _ (compare c.rights w.world.memory (address a) (address b))

  observed_comes : (i : Instr) (d : ℕ) (ty : Option Ty) (result : Option ℕ) (args : Option (List Word))
      → Comes i (observed c w d ty result args)
  observed_comes i d ty result None = tt
  observed_comes i d None result (Some args) = tt
  observed_comes i d (Some ty) result (Some args) = tt

  named_comes : (i : Instr) → IsCalling i → (f d : Option ℕ) (ty : Option Ty) (result : Option ℕ) → result_of i ≡ result
      → (must_tail : Bool) (vs : List Value) → Comes i (named_call c w f d ty result must_tail vs)
  named_comes i is (Some f) d ty result e must_tail vs = (is, e)
  named_comes i is None (Some d) ty result e must_tail vs = observed_comes i d ty result (words_of vs)
  named_comes i is None None ty result e must_tail vs = tt

  indirect_comes : (i : Instr) → IsCalling i → (v : Value) (ty : Option Ty) (result : Option ℕ) → result_of i ≡ result
      → (must_tail : Bool) (args : List Arg) (vs : List Value)
      → Comes i (indirect_call c v ty result must_tail args vs)
  indirect_comes i is (Value.Ptr (Pointer.Func f)) ty result e must_tail args vs =
      on (fits_function ty args (slice_get c.code.functions f))
    where
      on : (t : Bool) → Comes i (if t then Enter f vs result must_tail else Stuck Cause.Call)
      on true = (is, e)
      on false = tt
  indirect_comes i is (Value.Ptr Pointer.Null) ty result e must_tail args vs = tt
  indirect_comes i is (Value.Ptr (Pointer.At b o)) ty result e must_tail args vs = tt
  indirect_comes i is Value.Poison ty result e must_tail args vs = tt
  indirect_comes i is (Value.Int y) ty result e must_tail args vs = tt

  copied_comes : (i : Instr) (vs : List Value) → Comes i (copied_bytes c w vs)
  copied_comes i vs = length_comes i (nth vs 2) (λ n. done (set_memory w) (copy c.rights w.world.memory (address (nth vs 0))
      (address (nth vs 1)) n)) (λ n. done_comes i (set_memory w) (copy c.rights w.world.memory (address (nth vs 0))
      (address (nth vs 1)) n))

  intrinsic_comes : (x : Intrinsic) (result : Option ℕ) (must_tail : Bool) (ty : Option Ty) (args : List Arg)
      (vs : List Value) → Comes (Instr.Call result must_tail ty (Callee.Intrinsic x) args)
      (intrinsic_call c w x result args vs)
  intrinsic_comes Intrinsic.LifetimeStart result must_tail ty args vs = tt
  intrinsic_comes Intrinsic.LifetimeEnd result must_tail ty args vs = tt
  intrinsic_comes Intrinsic.MemcpyI64 result must_tail ty args vs = copied_comes
      (Instr.Call result must_tail ty (Callee.Intrinsic Intrinsic.MemcpyI64) args) vs
  intrinsic_comes Intrinsic.MemcpyI32 result must_tail ty args vs = copied_comes
      (Instr.Call result must_tail ty (Callee.Intrinsic Intrinsic.MemcpyI32) args) vs
  intrinsic_comes _ result must_tail ty args vs = (must_tail, ty, refl)

  allocator_comes : (i : Instr) (a : Allocator) (result : Option ℕ) (vs : List Value)
      → Comes i (allocator_call a w result vs)
  allocator_comes i Allocator.Malloc result vs = length_comes i (nth vs 0) _ (λ n. tt)
  allocator_comes i Allocator.Znwm result vs = length_comes i (nth vs 0) _ (λ n. tt)
  allocator_comes i Allocator.Free result vs = tt
  allocator_comes i Allocator.ZdlPv result vs = tt
  allocator_comes i Allocator.ZdlPvm result vs = tt

  call_comes : (result : Option ℕ) (must_tail : Bool) (ty : Option Ty) (callee : Callee) (args : List Arg)
      → Comes (Instr.Call result must_tail ty callee args)
      (instr_action c w (Instr.Call result must_tail ty callee args))
  call_comes result must_tail ty (Callee.Named n) args = named_comes
      (Instr.Call result must_tail ty (Callee.Named n) args) tt (function_named c.code n)
      (declaration_named c.code n) ty result refl must_tail (arg_values c.code w.values args)
  call_comes result must_tail ty (Callee.Allocator a) args = allocator_comes
      (Instr.Call result must_tail ty (Callee.Allocator a) args) a result (arg_values c.code w.values args)
  call_comes result must_tail ty (Callee.Intrinsic x) args = intrinsic_comes x result must_tail ty args
      (arg_values c.code w.values args)
  call_comes result must_tail ty (Callee.Local name) args = indirect_comes
      (Instr.Call result must_tail ty (Callee.Local name) args) tt (value_in w.values name) ty result refl must_tail args
      (arg_values c.code w.values args)

  pub comes : (i : Instr) → Comes i (instr_action c w i)
  comes (Instr.Binary name op flags ty a b) = done_comes (Instr.Binary name op flags ty a b) _ _
  comes (Instr.Icmp name pred ty a b) = compared_comes (Instr.Icmp name pred ty a b) name pred ty _ _
  comes (Instr.Select name x a b) = tt
  comes (Instr.Cast name op nneg arg to) = tt
  comes (Instr.Alloca name ty align) = if_comes (Instr.Alloca name ty align) align _ tt
  comes (Instr.Load name ty p align) = if_comes (Instr.Load name ty p align) align _
      (done_comes (Instr.Load name ty p align) _ _)
  comes (Instr.Store arg p align) = if_comes (Instr.Store arg p align) align _ (done_comes (Instr.Store arg p align) _ _)
  comes (Instr.Gep name inbounds ty base indices) = tt
  comes (Instr.Call result must_tail ty callee args) = call_comes result must_tail ty callee args
