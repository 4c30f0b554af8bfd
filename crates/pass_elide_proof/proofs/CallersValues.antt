-- Names that an instruction doesn't give keep their values.
use Rattle.std.proofs.Common.{◌≡◌, ap, Bool, Err, false, List, Ok, Option, refl, Result, true, ℕ, if◌then◌else◌}
use Rattle.std.specs.Prelude.{None, Some, slice_get}
use Rattle.pass_proofs.proofs.run_laws.transfer.Sets.{set_elsewhere}
use Rattle.pass_proofs.specs.ir_base.declared.cause.Cause.{Cause}
use Rattle.pass_proofs.specs.ir_base.declared.ops.Pred.{Pred}
use Rattle.pass_proofs.specs.ir_base.declared.outcome.Word.{Word}
use Rattle.pass_proofs.specs.ir_model.Names.{declaration_named, function_named}
use Rattle.pass_proofs.specs.ir_model.Ty.{Ty, array, int, named, ptr, structure, token}
use Rattle.pass_proofs.specs.ir_model.declared.instr.Instr.{Instr}
use Rattle.pass_proofs.specs.ir_model.declared.operand.Allocator.{Allocator}
use Rattle.pass_proofs.specs.ir_model.declared.operand.Arg.{Arg}
use Rattle.pass_proofs.specs.ir_model.declared.operand.Callee.{Callee}
use Rattle.pass_proofs.specs.ir_model.declared.operand.Intrinsic.{Intrinsic}
use Rattle.pass_proofs.specs.ir_parts.Contents.{result_of}
use Rattle.pass_proofs.specs.run_ints.Numbers.{binary}
use Rattle.pass_proofs.specs.run_memory.Memory.{compare, copy, load, store}
use Rattle.pass_proofs.specs.run_memory.declared.pointer.Pointer.{Pointer}
use Rattle.pass_proofs.specs.run_memory.declared.pointer.Value.{Value}
use Rattle.pass_proofs.specs.run_step.Step.{Action, AtInstr, Context, Done, Enter, NewSlot, Stuck, Work, action_of, allocated, by_pred, compared, copied_bytes, done, fits_function, if_alignment, indirect_call, instr_action, intrinsic_call, is_alignment, named_call, observed, set_memory, set_value, value_at, with_length, words_of}
use Rattle.pass_proofs.specs.run_step.Values.{Env, access_of, address, arg_value, arg_values, nth, number_at, stored, truth_value, value_in, value_of, with_result}

-- ---- a call's result

pub result_elsewhere : (env : Env) (result : Option ℕ) (x : Value) (v : ℕ) → (result ≡ Some v → ⊥)
    → value_in (with_result env result x) v ≡ value_in env v
result_elsewhere env None x v ne = refl
result_elsewhere env (Some name) x v ne = set_elsewhere env name v x (λ is. ne (ap Some is))

-- ---- what an instruction gives

module _ (c : Context) (w : Work) where
  abbrev pub KeepsOthers : Option ℕ → Work → Type 0
  KeepsOthers o x = (v : ℕ) → (o ≡ Some v → ⊥) → value_in x.values v ≡ value_in w.values v

  abbrev pub SetsOnly : Option ℕ → Action → Type 0
  SetsOnly o (Done x) = KeepsOthers o x
  SetsOnly o (NewSlot x slot) = KeepsOthers o x
  SetsOnly o _ = Unit {0}

  one_sets : (name : ℕ) (x : Value) → KeepsOthers (Some name) (set_value w name x)
  one_sets name x v ne = set_elsewhere w.values name v x (λ is. ne (ap Some is))

  done_sets : {A : Type 0} (o : Option ℕ) (f : A → Work) (r : Result A Cause) → ((a : A) → KeepsOthers o (f a))
      → SetsOnly o (done f r)
  done_sets o f (Err cause) h = tt
  done_sets o f (Ok a) h = h a

  if_sets : (o : Option ℕ) (align : ℕ) (a : Action) → SetsOnly o a → SetsOnly o (if_alignment align a)
  if_sets o align a h = on (is_alignment align)
    where
      on : (t : Bool) → SetsOnly o (if t then a else Stuck Cause.Align)
      on true = h
      on false = tt

  length_sets : (o : Option ℕ) (u : Value) (f : ℕ → Action) → ((j : ℕ) → SetsOnly o (f j))
      → SetsOnly o (with_length u f)
  length_sets o (Value.Int y) f h = h y.bits
  length_sets o Value.Poison f h = tt
  length_sets o (Value.Ptr p) f h = tt

  -- ---- comparisons

  pointers_set : (name : ℕ) (pred : Pred) (r : Result Bool Cause)
      → SetsOnly (Some name) (done (λ same. set_value w name (truth_value (by_pred pred same))) r)
  pointers_set name pred r =
      done_sets (Some name) (λ same. set_value w name (truth_value (by_pred pred same))) r
      (λ t. one_sets name (truth_value (by_pred pred t)))

  compared_sets : (name : ℕ) (pred : Pred) (ty : Ty) (a b : Value)
      → SetsOnly (Some name) (compared c w name pred ty a b)
  compared_sets name pred (int j) a b = one_sets name _
  compared_sets name pred ptr a b =
      pointers_set name pred (compare c.rights w.world.memory (address a) (address b))
  compared_sets name pred token a b =
      pointers_set name pred (compare c.rights w.world.memory (address a) (address b))
  compared_sets name pred (array j t) a b =
      pointers_set name pred (compare c.rights w.world.memory (address a) (address b))
  compared_sets name pred (structure ts) a b =
      pointers_set name pred (compare c.rights w.world.memory (address a) (address b))
  compared_sets name pred (named j) a b =
      pointers_set name pred (compare c.rights w.world.memory (address a) (address b))

  -- ---- calls

  observed_sets : (d : ℕ) (ty : Option Ty) (result : Option ℕ) (args : Option (List Word))
      → SetsOnly result (observed c w d ty result args)
  observed_sets d ty result None = tt
  observed_sets d None result (Some args) = result_elsewhere w.values result _
  observed_sets d (Some ty) result (Some args) = result_elsewhere w.values result _

  named_sets : (f d : Option ℕ) (ty : Option Ty) (result : Option ℕ) (must_tail : Bool) (vs : List Value)
      → SetsOnly result (named_call c w f d ty result must_tail vs)
  named_sets (Some f) d ty result must_tail vs = tt
  named_sets None (Some d) ty result must_tail vs = observed_sets d ty result (words_of vs)
  named_sets None None ty result must_tail vs = tt

  indirect_sets : (v : Value) (ty : Option Ty) (result : Option ℕ) (must_tail : Bool) (args : List Arg)
      (vs : List Value) → SetsOnly result (indirect_call c v ty result must_tail args vs)
  indirect_sets (Value.Ptr (Pointer.Func f)) ty result must_tail args vs =
      on (fits_function ty args (slice_get c.code.functions f))
    where
      on : (t : Bool) → SetsOnly result (if t then Enter f vs result must_tail else Stuck Cause.Call)
      on true = tt
      on false = tt
  indirect_sets (Value.Ptr Pointer.Null) ty result must_tail args vs = tt
  indirect_sets (Value.Ptr (Pointer.At b o)) ty result must_tail args vs = tt
  indirect_sets Value.Poison ty result must_tail args vs = tt
  indirect_sets (Value.Int y) ty result must_tail args vs = tt

  copied_sets : (result : Option ℕ) (vs : List Value) → SetsOnly result (copied_bytes c w vs)
  copied_sets result vs =
      length_sets result (nth vs 2) _
      (λ j. done_sets result (set_memory w)
      (copy c.rights w.world.memory (address (nth vs 0)) (address (nth vs 1)) j) (λ k v ne. refl))

  intrinsic_sets : (i : Intrinsic) (result : Option ℕ) (args : List Arg) (vs : List Value)
      → SetsOnly result (intrinsic_call c w i result args vs)
  intrinsic_sets Intrinsic.LifetimeStart result args vs = λ v ne. refl
  intrinsic_sets Intrinsic.LifetimeEnd result args vs = λ v ne. refl
  intrinsic_sets Intrinsic.MemcpyI64 result args vs = copied_sets result vs
  intrinsic_sets Intrinsic.MemcpyI32 result args vs = copied_sets result vs
  intrinsic_sets _ result args vs = tt

  allocated_sets : (result : Option ℕ) (u : Value) → SetsOnly result (with_length u (λ n. Done (allocated w result n)))
  allocated_sets result (Value.Int y) = result_elsewhere w.values result _
  allocated_sets result Value.Poison = tt
  allocated_sets result (Value.Ptr p) = tt

  call_sets : (result : Option ℕ) (must_tail : Bool) (ty : Option Ty) (callee : Callee) (args : List Arg)
      → SetsOnly result (instr_action c w (Instr.Call result must_tail ty callee args))
  call_sets result must_tail ty (Callee.Named j) args =
      named_sets (function_named c.code j) (declaration_named c.code j) ty result must_tail
      (arg_values c.code w.values args)
  call_sets result must_tail ty (Callee.Allocator Allocator.Malloc) args =
      allocated_sets result (nth (arg_values c.code w.values args) 0)
  call_sets result must_tail ty (Callee.Allocator Allocator.Znwm) args =
      allocated_sets result (nth (arg_values c.code w.values args) 0)
  call_sets result must_tail ty (Callee.Allocator Allocator.Free) args = tt
  call_sets result must_tail ty (Callee.Allocator Allocator.ZdlPv) args = tt
  call_sets result must_tail ty (Callee.Allocator Allocator.ZdlPvm) args = tt
  call_sets result must_tail ty (Callee.Intrinsic i) args =
      intrinsic_sets i result args (arg_values c.code w.values args)
  call_sets result must_tail ty (Callee.Local name) args =
      indirect_sets (value_in w.values name) ty result must_tail args (arg_values c.code w.values args)

  -- ---- instructions

  pub sets_only : (i : Instr) → SetsOnly (result_of i) (action_of c w (AtInstr i))
  sets_only (Instr.Binary name op flags ty a b) =
      done_sets (Some name) (λ n. set_value w name (value_of n))
      (binary op flags (number_at ty (value_at c w ty a)) (number_at ty (value_at c w ty b)))
      (λ j. one_sets name (value_of j))
  sets_only (Instr.Icmp name pred ty a b) = compared_sets name pred ty (value_at c w ty a) (value_at c w ty b)
  sets_only (Instr.Select name x a b) = one_sets name _
  sets_only (Instr.Cast name op nneg arg to) = one_sets name _
  sets_only (Instr.Alloca name ty align) = if_sets (Some name) align _ (one_sets name _)
  sets_only (Instr.Load name ty p align) =
      if_sets (Some name) align _
      (done_sets (Some name) (set_value w name)
      (load c.rights w.world.memory (address (value_at c w ptr p)) (access_of ty) align) (one_sets name))
  sets_only (Instr.Store arg p align) =
      if_sets None align _
      (done_sets None (set_memory w) (store c.rights w.world.memory (address (value_at c w ptr p))
      (stored (access_of arg.ty) (arg_value c.code w.values arg)) (access_of arg.ty) align) (λ j v ne. refl))
  sets_only (Instr.Gep name inbounds ty base indices) = one_sets name _
  sets_only (Instr.Call result must_tail ty callee args) = call_sets result must_tail ty callee args
