-- What a step leaves of the memory, instruction by instruction: each property that holds of it is shown by few cases.
use Rattle.std.proofs.Common.{◌≡◌, ℕ, Bool, true, false, List, Option, Some, None, Result, Ok, Err, refl, if◌then◌else◌}
use Rattle.std.specs.Prelude.{slice_get}
use Rattle.run_memory.specs.Memory.{compare, copy, end, fresh, load, start, store}
use Rattle.run_memory.specs.declared.block.Kind.{Kind}
use Rattle.run_memory.specs.declared.block.MemoryBlock.{MemoryBlock}
use Rattle.run_memory.specs.declared.pointer.Pointer.{Pointer}
use Rattle.run_memory.specs.declared.pointer.Value.{Value}
use Rattle.ir_base.specs.declared.cause.Cause.{Cause}
use Rattle.ir_base.specs.declared.ops.Pred.{Pred}
use Rattle.ir_base.specs.declared.outcome.Word.{Word}
use Rattle.run_ints.specs.Numbers.{binary}
use Rattle.ir_model.specs.Layout.{size_of}
use Rattle.ir_model.specs.Names.{declaration_named, function_named}
use Rattle.ir_model.specs.Ty.{Ty, array, int, named, ptr, structure, token}
use Rattle.ir_model.specs.declared.instr.Case.{Case}
use Rattle.ir_model.specs.declared.instr.Instr.{Instr}
use Rattle.ir_model.specs.declared.instr.Terminator.{Terminator}
use Rattle.ir_model.specs.declared.operand.Allocator.{Allocator}
use Rattle.ir_model.specs.declared.operand.Arg.{Arg}
use Rattle.ir_model.specs.declared.operand.Callee.{Callee}
use Rattle.ir_model.specs.declared.operand.Intrinsic.{Intrinsic}
use Rattle.run_step.specs.Effects.{slot_memory}
use Rattle.run_step.specs.Step.{Action, AtInstr, AtTerm, Context, Deallocate, Done, Enter, Fetched, NewSlot, Nowhere, Stuck, Work, action_of, block_of, branch, by_pred, compared, copied_bytes, deallocated, done, fits_function, if_alignment, indirect_call, instr_action, intrinsic_call, is_alignment, named_call, observed, on_block, set_memory, set_value, switch, term_action, with_length, words_of}
use Rattle.run_step.specs.Values.{access_of, address, arg_value, arg_values, nth, number_at, operand_value, stored, truth_value, value_in, value_of}

-- P holds of the memory that the action leaves, and D of what a deallocation leaves
abbrev pub Comes : (P D : List MemoryBlock → Type 0) → List MemoryBlock → Action → Type 0
Comes P D m (Done w) = P w.world.memory
Comes P D m (NewSlot w slot) = P w.world.memory
Comes P D m (Deallocate p) = (k : List MemoryBlock) → deallocated m p ≡ Ok k → D k
Comes P D m _ = Unit {0}

module _ (c : Context) (w : Work) (P D : List MemoryBlock → Type 0) where
  abbrev m : List MemoryBlock
  m = w.world.memory

  -- what has to be shown of a call
  abbrev pub CopyNeeds : List Value → Type 0
  CopyNeeds vs = (y : Word) (k : List MemoryBlock) → nth vs 2 ≡ Value.Int y → copy c.rights m (address (nth vs 0)) (address (nth vs 1)) y.bits ≡ Ok k → P k

  abbrev pub IntrinsicNeeds : Intrinsic → List Value → Type 0
  IntrinsicNeeds Intrinsic.LifetimeStart vs = P (on_block start m (block_of (nth vs 1)))
  IntrinsicNeeds Intrinsic.LifetimeEnd vs = P (on_block end m (block_of (nth vs 1)))
  IntrinsicNeeds Intrinsic.MemcpyI64 vs = CopyNeeds vs
  IntrinsicNeeds Intrinsic.MemcpyI32 vs = CopyNeeds vs
  IntrinsicNeeds _ vs = Unit {0}

  abbrev pub AllocatorNeeds : Allocator → List Value → Type 0
  AllocatorNeeds Allocator.Malloc vs = (n : ℕ) → P (fresh m n 16 Kind.Allocator)
  AllocatorNeeds Allocator.Znwm vs = (n : ℕ) → P (fresh m n 16 Kind.Allocator)
  AllocatorNeeds Allocator.Free vs = (k : List MemoryBlock) → deallocated m (address (nth vs 0)) ≡ Ok k → D k
  AllocatorNeeds Allocator.ZdlPv vs = (k : List MemoryBlock) → deallocated m (address (nth vs 0)) ≡ Ok k → D k
  AllocatorNeeds Allocator.ZdlPvm vs = (k : List MemoryBlock) → deallocated m (address (nth vs 0)) ≡ Ok k → D k

  abbrev pub CallNeeds : Callee → List Value → Type 0
  CallNeeds (Callee.Named n) vs = Unit {0}
  CallNeeds (Callee.Allocator a) vs = AllocatorNeeds a vs
  CallNeeds (Callee.Intrinsic i) vs = IntrinsicNeeds i vs
  CallNeeds (Callee.Local name) vs = Unit {0}

  -- and of an instruction
  abbrev pub Needs : Fetched → Type 0
  Needs (AtInstr (Instr.Alloca name ty align)) = P (slot_memory c.function m name (size_of c.code ty) align)
  Needs (AtInstr (Instr.Store arg p align)) = (k : List MemoryBlock) → store c.rights m (address (operand_value c.code w.values ptr p)) (stored (access_of arg.ty) (arg_value c.code w.values arg)) (access_of arg.ty) align ≡ Ok k → P k
  Needs (AtInstr (Instr.Call result must_tail ty callee args)) = CallNeeds callee (arg_values c.code w.values args)
  Needs _ = Unit {0}

  module _ (same : P m) where
    abbrev Ends : Action → Type 0
    Ends a = Comes P D m a

    done_ends : {A : Type 0} (f : A → Work) (r : Result A Cause) → ((a : A) → r ≡ Ok a → P (f a).world.memory) → Ends (done f r)
    done_ends f (Err cause) h = tt
    done_ends f (Ok a) h = h a refl

    if_ends : (align : ℕ) (a : Action) → Ends a → Ends (if_alignment align a)
    if_ends align a h = on (is_alignment align)
      where
        on : (t : Bool) → Ends (if t then a else Stuck Cause.Align)
        on true = h
        on false = tt

    length_ends : (v : Value) (f : ℕ → Action) → ((y : Word) → v ≡ Value.Int y → Ends (f y.bits)) → Ends (with_length v f)
    length_ends (Value.Int y) f h = h y refl
    length_ends Value.Poison f h = tt
    length_ends (Value.Ptr p) f h = tt

    pointers_end : (name : ℕ) (pred : Pred) (r : Result Bool Cause) → Ends (done (λ same. set_value w name (truth_value (by_pred pred same))) r)
    pointers_end name pred r = done_ends (λ same. set_value w name (truth_value (by_pred pred same))) r (λ t e. same)

    compared_ends : (name : ℕ) (pred : Pred) (ty : Ty) (a b : Value) → Ends (compared c w name pred ty a b)
    compared_ends name pred (int n) a b = same
    compared_ends name pred ptr a b = pointers_end name pred (compare c.rights m (address a) (address b))
    compared_ends name pred token a b = pointers_end name pred (compare c.rights m (address a) (address b))
    compared_ends name pred (array n t) a b = pointers_end name pred (compare c.rights m (address a) (address b))
    compared_ends name pred (structure ts) a b = pointers_end name pred (compare c.rights m (address a) (address b))
    compared_ends name pred (named n) a b = pointers_end name pred (compare c.rights m (address a) (address b))

    -- ---- calls

    observed_ends : (n : ℕ) (ty : Option Ty) (result : Option ℕ) (args : Option (List Word)) → Ends (observed c w n ty result args)
    observed_ends n ty result None = tt
    observed_ends n None result (Some args) = same
    observed_ends n (Some ty) result (Some args) = same

    named_ends : (f n : Option ℕ) (ty : Option Ty) (result : Option ℕ) (must_tail : Bool) (vs : List Value) → Ends (named_call c w f n ty result must_tail vs)
    named_ends (Some f) n ty result must_tail vs = tt
    named_ends None (Some n) ty result must_tail vs = observed_ends n ty result (words_of vs)
    named_ends None None ty result must_tail vs = tt

    indirect_ends : (v : Value) (ty : Option Ty) (result : Option ℕ) (must_tail : Bool) (args : List Arg) (vs : List Value) → Ends (indirect_call c v ty result must_tail args vs)
    indirect_ends (Value.Ptr (Pointer.Func f)) ty result must_tail args vs = on (fits_function ty args (slice_get c.code.functions f))
      where
        on : (t : Bool) → Ends (if t then Enter f vs result must_tail else Stuck Cause.Call)
        on true = tt
        on false = tt
    indirect_ends (Value.Ptr Pointer.Null) ty result must_tail args vs = tt
    indirect_ends (Value.Ptr (Pointer.At b o)) ty result must_tail args vs = tt
    indirect_ends Value.Poison ty result must_tail args vs = tt
    indirect_ends (Value.Int y) ty result must_tail args vs = tt

    copied_ends : (vs : List Value) → CopyNeeds vs → Ends (copied_bytes c w vs)
    copied_ends vs h = length_ends (nth vs 2) _ (λ y e. done_ends (set_memory w) (copy c.rights m (address (nth vs 0)) (address (nth vs 1)) y.bits) (λ k f. h y k e f))

    intrinsic_ends : (i : Intrinsic) (result : Option ℕ) (args : List Arg) (vs : List Value) → IntrinsicNeeds i vs → Ends (intrinsic_call c w i result args vs)
    intrinsic_ends Intrinsic.LifetimeStart result args vs h = h
    intrinsic_ends Intrinsic.LifetimeEnd result args vs h = h
    intrinsic_ends Intrinsic.MemcpyI64 result args vs h = copied_ends vs h
    intrinsic_ends Intrinsic.MemcpyI32 result args vs h = copied_ends vs h
    intrinsic_ends _ result args vs h = tt

    call_ends : (result : Option ℕ) (must_tail : Bool) (ty : Option Ty) (callee : Callee) (args : List Arg) → CallNeeds callee (arg_values c.code w.values args) → Ends (instr_action c w (Instr.Call result must_tail ty callee args))
    call_ends result must_tail ty (Callee.Named n) args h = named_ends (function_named c.code n) (declaration_named c.code n) ty result must_tail (arg_values c.code w.values args)
    call_ends result must_tail ty (Callee.Allocator Allocator.Malloc) args h = length_ends (nth (arg_values c.code w.values args) 0) _ (λ y e. h y.bits)
    call_ends result must_tail ty (Callee.Allocator Allocator.Znwm) args h = length_ends (nth (arg_values c.code w.values args) 0) _ (λ y e. h y.bits)
    call_ends result must_tail ty (Callee.Allocator Allocator.Free) args h = h
    call_ends result must_tail ty (Callee.Allocator Allocator.ZdlPv) args h = h
    call_ends result must_tail ty (Callee.Allocator Allocator.ZdlPvm) args h = h
    call_ends result must_tail ty (Callee.Intrinsic i) args h = intrinsic_ends i result args (arg_values c.code w.values args) h
    call_ends result must_tail ty (Callee.Local name) args h = indirect_ends (value_in w.values name) ty result must_tail args (arg_values c.code w.values args)

    -- ---- instructions and terminators

    instr_ends : (i : Instr) → Needs (AtInstr i) → Ends (instr_action c w i)
    instr_ends (Instr.Binary name op flags ty a b) h = done_ends (λ n. set_value w name (value_of n)) (binary op flags (number_at ty (operand_value c.code w.values ty a)) (number_at ty (operand_value c.code w.values ty b))) (λ n e. same)
    instr_ends (Instr.Icmp name pred ty a b) h = compared_ends name pred ty _ _
    instr_ends (Instr.Select name y a b) h = same
    instr_ends (Instr.Cast name op nneg arg to) h = same
    instr_ends (Instr.Alloca name ty align) h = if_ends align _ h
    instr_ends (Instr.Load name ty p align) h = if_ends align _ (done_ends (set_value w name) (load c.rights m (address (operand_value c.code w.values ptr p)) (access_of ty) align) (λ v e. same))
    instr_ends (Instr.Store arg p align) h =
        if_ends align _
        (done_ends (set_memory w) (store c.rights m (address (operand_value c.code w.values ptr p)) (stored (access_of arg.ty) (arg_value c.code w.values arg)) (access_of arg.ty) align) (λ k e. h k e))
    instr_ends (Instr.Gep name inbounds ty base indices) h = same
    instr_ends (Instr.Call result must_tail ty callee args) h = call_ends result must_tail ty callee args h

    branch_ends : (v : Value) (a b : ℕ) → Ends (branch v a b)
    branch_ends (Value.Int y) a b = tt
    branch_ends Value.Poison a b = tt
    branch_ends (Value.Ptr p) a b = tt

    switch_ends : (v : Value) (default : ℕ) (cases : List Case) → Ends (switch c.code v default cases)
    switch_ends (Value.Int y) default cases = tt
    switch_ends Value.Poison default cases = tt
    switch_ends (Value.Ptr p) default cases = tt

    term_ends : (t : Terminator) → Ends (term_action c w t)
    term_ends (Terminator.Jump label) = tt
    term_ends (Terminator.Branch y a b) = branch_ends (operand_value c.code w.values (int 1) y) a b
    term_ends (Terminator.Switch arg default cases) = switch_ends (arg_value c.code w.values arg) default cases
    term_ends (Terminator.Ret None) = tt
    term_ends (Terminator.Ret (Some arg)) = tt
    term_ends Terminator.Unreachable = tt

    pub step_ends : (here : Fetched) → Needs here → Ends (action_of c w here)
    step_ends Nowhere h = tt
    step_ends (AtInstr i) h = instr_ends i h
    step_ends (AtTerm t) h = term_ends t
