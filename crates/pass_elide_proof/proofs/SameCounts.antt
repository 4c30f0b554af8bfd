-- A step that allocates no block leaves the count of allocator calls as it is. A new slot leads
-- to a block that there is.
use Rattle.std.proofs.Common.{◌≡◌, ◌<◌, ℕ, Bool, true, false, List, [], ◌∷◌, length, arith, length-append, Option, Result, Ok, Err, refl, if◌then◌else◌}
use Rattle.std.specs.Prelude.{None, Some, slice_get}
use Rattle.pass_elide_proof.proofs.ChangedBoth.{changed_many}
use Rattle.pass_proofs.specs.ir_base.declared.cause.Cause.{Cause}
use Rattle.pass_proofs.specs.ir_base.declared.ops.Pred.{Pred}
use Rattle.pass_proofs.specs.ir_base.declared.outcome.Word.{Word}
use Rattle.pass_proofs.specs.ir_model.Layout.{size_of}
use Rattle.pass_proofs.specs.ir_model.Names.{declaration_named, function_named}
use Rattle.pass_proofs.specs.ir_model.Ty.{Ty, array, int, named, ptr, structure, token}
use Rattle.pass_proofs.specs.ir_model.declared.instr.Instr.{Instr}
use Rattle.pass_proofs.specs.ir_model.declared.operand.Allocator.{Allocator}
use Rattle.pass_proofs.specs.ir_model.declared.operand.Arg.{Arg}
use Rattle.pass_proofs.specs.ir_model.declared.operand.Callee.{Callee}
use Rattle.pass_proofs.specs.ir_model.declared.operand.Intrinsic.{Intrinsic}
use Rattle.pass_proofs.specs.run_ints.Numbers.{binary}
use Rattle.pass_proofs.specs.run_laws.memory.Standing.{blank_block}
use Rattle.pass_proofs.specs.run_memory.Memory.{end, ended, fresh, compare, copy, load, store}
use Rattle.pass_proofs.specs.run_memory.declared.block.Kind.{Kind}
use Rattle.pass_proofs.specs.run_memory.declared.block.MemoryBlock.{MemoryBlock}
use Rattle.pass_proofs.specs.run_memory.declared.pointer.Pointer.{Pointer}
use Rattle.pass_proofs.specs.run_memory.declared.pointer.Value.{Value}
use Rattle.pass_proofs.specs.run_step.Step.{Action, AtInstr, Context, Done, alloca_kind, has_markers, Enter, NewSlot, Stuck, Work, action_of, by_pred, compared, copied_bytes, done, fits_function, if_alignment, indirect_call, instr_action, intrinsic_call, is_alignment, named_call, observed, set_memory, set_value, value_at, with_length, words_of}
use Rattle.pass_proofs.specs.run_step.Values.{access_of, address, arg_value, arg_values, nth, number_at, stored, truth_value, value_in, value_of}

-- a call of an allocator
abbrev pub IsNoAllocation : Instr → Type 0
IsNoAllocation (Instr.Call result must_tail ty (Callee.Allocator Allocator.Malloc) args) = ⊥
IsNoAllocation (Instr.Call result must_tail ty (Callee.Allocator Allocator.Znwm) args) = ⊥
IsNoAllocation _ = Unit {0}

slot_there : (m : List MemoryBlock) (size align : ℕ) (kind : Kind) (t : Bool)
    → length m < length (if t then end (fresh m size align kind) (length m) else fresh m size align kind)
slot_there m size align kind false =
    let long = length-append m (blank_block size align kind ∷ []) in omega (arith, long)
slot_there m size align kind true =
    let long = length-append m (blank_block size align kind ∷ []) in
    let many = changed_many (fresh m size align kind) (length m) ended in
    omega (arith, long, many)

module _ (c : Context) (w : Work) where
  abbrev pub KeepsCount : Action → Type 0
  KeepsCount (Done v) = v.world.allocs ≡ w.world.allocs
  KeepsCount (NewSlot v slot) = (v.world.allocs ≡ w.world.allocs) × (slot.block < length v.world.memory)
  KeepsCount _ = Unit {0}

  done_keeps : {A : Type 0} (f : A → Work) (r : Result A Cause) → ((a : A) → (f a).world.allocs ≡ w.world.allocs)
      → KeepsCount (done f r)
  done_keeps f (Err cause) h = tt
  done_keeps f (Ok a) h = h a

  if_keeps : (align : ℕ) (a : Action) → KeepsCount a → KeepsCount (if_alignment align a)
  if_keeps align a h = on (is_alignment align)
    where
      on : (t : Bool) → KeepsCount (if t then a else Stuck Cause.Align)
      on true = h
      on false = tt

  length_keeps : (u : Value) (f : ℕ → Action) → ((j : ℕ) → KeepsCount (f j)) → KeepsCount (with_length u f)
  length_keeps (Value.Int y) f h = h y.bits
  length_keeps Value.Poison f h = tt
  length_keeps (Value.Ptr p) f h = tt

  -- ---- comparisons

  pointers_keep : (name : ℕ) (pred : Pred) (r : Result Bool Cause)
      → KeepsCount (done (λ same. set_value w name (truth_value (by_pred pred same))) r)
  pointers_keep name pred r = done_keeps (λ same. set_value w name (truth_value (by_pred pred same))) r (λ t. refl)

  compared_keeps : (name : ℕ) (pred : Pred) (ty : Ty) (a b : Value) → KeepsCount (compared c w name pred ty a b)
  compared_keeps name pred (int j) a b = refl
  compared_keeps name pred ptr a b =
      pointers_keep name pred (compare c.rights w.world.memory (address a) (address b))
  compared_keeps name pred token a b =
      pointers_keep name pred (compare c.rights w.world.memory (address a) (address b))
  compared_keeps name pred (array j t) a b =
      pointers_keep name pred (compare c.rights w.world.memory (address a) (address b))
  compared_keeps name pred (structure ts) a b =
      pointers_keep name pred (compare c.rights w.world.memory (address a) (address b))
  compared_keeps name pred (named j) a b =
      pointers_keep name pred (compare c.rights w.world.memory (address a) (address b))

  -- ---- calls

  observed_keeps : (d : ℕ) (ty : Option Ty) (result : Option ℕ) (args : Option (List Word))
      → KeepsCount (observed c w d ty result args)
  observed_keeps d ty result None = tt
  observed_keeps d None result (Some args) = refl
  observed_keeps d (Some ty) result (Some args) = refl

  named_keeps : (f d : Option ℕ) (ty : Option Ty) (result : Option ℕ) (must_tail : Bool) (vs : List Value)
      → KeepsCount (named_call c w f d ty result must_tail vs)
  named_keeps (Some f) d ty result must_tail vs = tt
  named_keeps None (Some d) ty result must_tail vs = observed_keeps d ty result (words_of vs)
  named_keeps None None ty result must_tail vs = tt

  indirect_keeps : (v : Value) (ty : Option Ty) (result : Option ℕ) (must_tail : Bool) (args : List Arg)
      (vs : List Value) → KeepsCount (indirect_call c v ty result must_tail args vs)
  indirect_keeps (Value.Ptr (Pointer.Func f)) ty result must_tail args vs =
      on (fits_function ty args (slice_get c.code.functions f))
    where
      on : (t : Bool) → KeepsCount (if t then Enter f vs result must_tail else Stuck Cause.Call)
      on true = tt
      on false = tt
  indirect_keeps (Value.Ptr Pointer.Null) ty result must_tail args vs = tt
  indirect_keeps (Value.Ptr (Pointer.At b o)) ty result must_tail args vs = tt
  indirect_keeps Value.Poison ty result must_tail args vs = tt
  indirect_keeps (Value.Int y) ty result must_tail args vs = tt

  copied_keeps : (vs : List Value) → KeepsCount (copied_bytes c w vs)
  copied_keeps vs =
      length_keeps (nth vs 2) _
      (λ j. done_keeps (set_memory w) (copy c.rights w.world.memory (address (nth vs 0)) (address (nth vs 1)) j)
      (λ k. refl))

  intrinsic_keeps : (i : Intrinsic) (result : Option ℕ) (args : List Arg) (vs : List Value)
      → KeepsCount (intrinsic_call c w i result args vs)
  intrinsic_keeps Intrinsic.LifetimeStart result args vs = refl
  intrinsic_keeps Intrinsic.LifetimeEnd result args vs = refl
  intrinsic_keeps Intrinsic.MemcpyI64 result args vs = copied_keeps vs
  intrinsic_keeps Intrinsic.MemcpyI32 result args vs = copied_keeps vs
  intrinsic_keeps _ result args vs = tt

  call_keeps : (result : Option ℕ) (must_tail : Bool) (ty : Option Ty) (callee : Callee) (args : List Arg)
      → IsNoAllocation (Instr.Call result must_tail ty callee args)
      → KeepsCount (instr_action c w (Instr.Call result must_tail ty callee args))
  call_keeps result must_tail ty (Callee.Named j) args h =
      named_keeps (function_named c.code j) (declaration_named c.code j) ty result must_tail
      (arg_values c.code w.values args)
  call_keeps result must_tail ty (Callee.Allocator Allocator.Malloc) args h = absurd h
  call_keeps result must_tail ty (Callee.Allocator Allocator.Znwm) args h = absurd h
  call_keeps result must_tail ty (Callee.Allocator Allocator.Free) args h = tt
  call_keeps result must_tail ty (Callee.Allocator Allocator.ZdlPv) args h = tt
  call_keeps result must_tail ty (Callee.Allocator Allocator.ZdlPvm) args h = tt
  call_keeps result must_tail ty (Callee.Intrinsic i) args h =
      intrinsic_keeps i result args (arg_values c.code w.values args)
  call_keeps result must_tail ty (Callee.Local name) args h =
      indirect_keeps (value_in w.values name) ty result must_tail args (arg_values c.code w.values args)

  -- ---- instructions

  pub count_stays : (i : Instr) → IsNoAllocation i → KeepsCount (action_of c w (AtInstr i))
  count_stays (Instr.Binary name op flags ty a b) h =
      done_keeps (λ n. set_value w name (value_of n))
      (binary op flags (number_at ty (value_at c w ty a)) (number_at ty (value_at c w ty b))) (λ j. refl)
  count_stays (Instr.Icmp name pred ty a b) h = compared_keeps name pred ty (value_at c w ty a) (value_at c w ty b)
  count_stays (Instr.Select name x a b) h = refl
  count_stays (Instr.Cast name op nneg arg to) h = refl
  count_stays (Instr.Alloca name ty align) h =
      if_keeps align _
      (refl, slot_there w.world.memory (size_of c.code ty) align (alloca_kind c.function) (has_markers c.function name))
  count_stays (Instr.Load name ty p align) h =
      if_keeps align _
      (done_keeps (set_value w name) (load c.rights w.world.memory (address (value_at c w ptr p)) (access_of ty) align)
      (λ j. refl))
  count_stays (Instr.Store arg p align) h =
      if_keeps align _
      (done_keeps (set_memory w) (store c.rights w.world.memory (address (value_at c w ptr p))
      (stored (access_of arg.ty) (arg_value c.code w.values arg)) (access_of arg.ty) align) (λ j. refl))
  count_stays (Instr.Gep name inbounds ty base indices) h = refl
  count_stays (Instr.Call result must_tail ty callee args) h = call_keeps result must_tail ty callee args h
