-- What comes of an instruction: around one that calls, resumes or ends only its operands are put in, and none branches
-- or returns.
use Rattle.std.proofs.Common.{◌≡◌, ℕ, Bool, true, false, List, Option, Some, None, Result, Ok, Err, refl, subst}
use Rattle.std.specs.Prelude.{if◌then◌else◌, slice_get}
use Rattle.pass_frames_proof.specs.ir_base.declared.cause.Cause.{Cause}
use Rattle.pass_frames_proof.specs.ir_base.declared.ops.Pred.{Pred}
use Rattle.pass_frames_proof.specs.ir_base.declared.outcome.Word.{Word}
use Rattle.pass_frames_proof.specs.ir_model.Names.{declaration_named, function_named}
use Rattle.pass_frames_proof.specs.ir_model.Ty.{Ty, array, int, named, ptr, structure, token}
use Rattle.pass_frames_proof.specs.ir_model.declared.instr.Instr.{Instr}
use Rattle.pass_frames_proof.specs.ir_model.declared.operand.Allocator.{Allocator}
use Rattle.pass_frames_proof.specs.ir_model.declared.operand.Arg.{Arg}
use Rattle.pass_frames_proof.specs.ir_model.declared.operand.Callee.{Callee}
use Rattle.pass_frames_proof.specs.ir_model.declared.operand.Intrinsic.{Intrinsic}
use Rattle.pass_frames_prices.specs.Counts.{more_by}
use Rattle.pass_frames_proof.specs.run_memory.Memory.{compare}
use Rattle.pass_frames_proof.specs.run_memory.declared.pointer.Pointer.{Pointer}
use Rattle.pass_frames_proof.specs.run_memory.declared.pointer.Value.{Value}
use Rattle.pass_frames_proof.specs.run_step.Step.{Action, Context, Coro, Enter, GoTo, Return, Stuck, Work, allocator_call, compared}
use Rattle.pass_frames_proof.specs.run_step.Step.{copied_bytes, done, fits_function, if_alignment, indirect_call, instr_action}
use Rattle.pass_frames_proof.specs.run_step.Step.{intrinsic_call, is_alignment, named_call, observed, with_length, words_of}
use Rattle.pass_frames_proof.specs.run_step.Values.{address, arg_values, nth, value_in}

-- what more is put in around an instruction, by what comes of it
abbrev pub Adds : ℕ → Action → Type 0
Adds more (Enter func args result must_tail) = more ≡ 0
Adds more (Coro Intrinsic.CoroResume args result) = more ≡ 0
Adds more (Coro Intrinsic.CoroDestroy args result) = more ≡ 0
Adds more (Coro Intrinsic.CoroEnd args result) = more ≡ 0
Adds more (GoTo label) = ⊥
Adds more (Return v) = ⊥
Adds more _ = Unit {0}

done_adds : {A : Type 0} (more : ℕ) (f : A → Work) (r : Result A Cause) → Adds more (done f r)
done_adds more f (Err cause) = tt
done_adds more f (Ok a) = tt

if_adds : (more align : ℕ) (a : Action) → Adds more a → Adds more (if_alignment align a)
if_adds more align a h = on (is_alignment align)
  where
    on : (t : Bool) → Adds more (if t then a else Stuck Cause.Align)
    on true = h
    on false = tt

length_adds : (more : ℕ) (v : Value) (f : ℕ → Action) → ((n : ℕ) → Adds more (f n)) → Adds more (with_length v f)
length_adds more (Value.Int y) f h = h y.bits
length_adds more Value.Poison f h = tt
length_adds more (Value.Ptr p) f h = tt

module _ (c : Context) (w : Work) where
  compared_adds : (more name : ℕ) (pred : Pred) (ty : Ty) (a b : Value) → Adds more (compared c w name pred ty a b)
  compared_adds more name pred (int n) a b = tt
  compared_adds more name pred ptr a b = done_adds more _ (compare c.rights w.world.memory (address a) (address b))
  compared_adds more name pred token a b = done_adds more _ (compare c.rights w.world.memory (address a) (address b))
  compared_adds more name pred (array n t) a b =
      done_adds more _ (compare c.rights w.world.memory (address a) (address b))
  compared_adds more name pred (structure ts) a b =
      done_adds more _ (compare c.rights w.world.memory (address a) (address b))
  compared_adds more name pred (named n) a b =
      done_adds more _ (compare c.rights w.world.memory (address a) (address b))

  observed_adds : (d : ℕ) (ty : Option Ty) (result : Option ℕ) (args : Option (List Word))
      → Adds 0 (observed c w d ty result args)
  observed_adds d ty result None = tt
  observed_adds d None result (Some args) = tt
  observed_adds d (Some ty) result (Some args) = tt

  named_adds : (f d : Option ℕ) (ty : Option Ty) (result : Option ℕ) (must_tail : Bool) (vs : List Value)
      → Adds 0 (named_call c w f d ty result must_tail vs)
  named_adds (Some f) d ty result must_tail vs = refl
  named_adds None (Some d) ty result must_tail vs = observed_adds d ty result (words_of vs)
  named_adds None None ty result must_tail vs = tt

  indirect_adds : (v : Value) (ty : Option Ty) (result : Option ℕ) (must_tail : Bool) (args : List Arg)
      (vs : List Value) → Adds 0 (indirect_call c v ty result must_tail args vs)
  indirect_adds (Value.Ptr (Pointer.Func f)) ty result must_tail args vs =
      on (fits_function ty args (slice_get c.code.functions f))
    where
      on : (t : Bool) → Adds 0 (if t then Enter f vs result must_tail else Stuck Cause.Call)
      on true = refl
      on false = tt
  indirect_adds (Value.Ptr Pointer.Null) ty result must_tail args vs = tt
  indirect_adds (Value.Ptr (Pointer.At b o)) ty result must_tail args vs = tt
  indirect_adds Value.Poison ty result must_tail args vs = tt
  indirect_adds (Value.Int y) ty result must_tail args vs = tt

  copied_adds : (more : ℕ) (vs : List Value) → Adds more (copied_bytes c w vs)
  copied_adds more vs = length_adds more (nth vs 2) _ (λ n. done_adds more _ _)

  allocator_adds : (a : Allocator) (result : Option ℕ) (vs : List Value) → Adds 0 (allocator_call a w result vs)
  allocator_adds Allocator.Malloc result vs = length_adds 0 (nth vs 0) _ (λ n. tt)
  allocator_adds Allocator.Znwm result vs = length_adds 0 (nth vs 0) _ (λ n. tt)
  allocator_adds Allocator.Free result vs = tt
  allocator_adds Allocator.ZdlPv result vs = tt
  allocator_adds Allocator.ZdlPvm result vs = tt

  module _ (kept early : ℕ) where
    intrinsic_adds : (i : Intrinsic) (result : Option ℕ) (must_tail : Bool) (ty : Option Ty) (args : List Arg)
        (vs : List Value)
        → Adds (more_by kept early (Instr.Call result must_tail ty (Callee.Intrinsic i) args))
        (intrinsic_call c w i result args vs)
    intrinsic_adds Intrinsic.LifetimeStart result must_tail ty args vs = tt
    intrinsic_adds Intrinsic.LifetimeEnd result must_tail ty args vs = tt
    intrinsic_adds Intrinsic.MemcpyI64 result must_tail ty args vs = copied_adds _ vs
    intrinsic_adds Intrinsic.MemcpyI32 result must_tail ty args vs = copied_adds _ vs
    intrinsic_adds Intrinsic.CoroResume result must_tail ty args vs = refl
    intrinsic_adds Intrinsic.CoroDestroy result must_tail ty args vs = refl
    intrinsic_adds Intrinsic.CoroEnd result must_tail ty args vs = refl
    intrinsic_adds _ result must_tail ty args vs = tt

    call_adds : (result : Option ℕ) (must_tail : Bool) (ty : Option Ty) (callee : Callee) (args : List Arg)
        → Adds (more_by kept early (Instr.Call result must_tail ty callee args))
        (instr_action c w (Instr.Call result must_tail ty callee args))
    call_adds result must_tail ty (Callee.Named n) args =
        named_adds (function_named c.code n) (declaration_named c.code n) ty result must_tail
        (arg_values c.code w.values args)
    call_adds result must_tail ty (Callee.Allocator a) args =
        allocator_adds a result (arg_values c.code w.values args)
    call_adds result must_tail ty (Callee.Intrinsic i) args =
        intrinsic_adds i result must_tail ty args (arg_values c.code w.values args)
    call_adds result must_tail ty (Callee.Local name) args =
        indirect_adds (value_in w.values name) ty result must_tail args (arg_values c.code w.values args)

    instr_adds : (i : Instr) → Adds (more_by kept early i) (instr_action c w i)
    instr_adds (Instr.Binary name op flags ty a b) = done_adds _ _ _
    instr_adds (Instr.Icmp name pred ty a b) = compared_adds _ name pred ty _ _
    instr_adds (Instr.Select name x a b) = tt
    instr_adds (Instr.Cast name op nneg arg to) = tt
    instr_adds (Instr.Alloca name ty align) = if_adds _ align _ tt
    instr_adds (Instr.Load name ty p align) = if_adds _ align _ (done_adds _ _ _)
    instr_adds (Instr.Store arg p align) = if_adds _ align _ (done_adds _ _ _)
    instr_adds (Instr.Gep name inbounds ty base indices) = tt
    instr_adds (Instr.Call result must_tail ty callee args) = call_adds result must_tail ty callee args

    pub added : (i : Instr) (a : Action) → instr_action c w i ≡ a → Adds (more_by kept early i) a
    added i a e = subst (Adds (more_by kept early i)) e (instr_adds i)
