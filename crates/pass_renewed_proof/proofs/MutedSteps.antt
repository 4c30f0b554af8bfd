-- An ordinary step does the same where blocks have ended into which its operands don't lead.
use Rattle.std.proofs.Common.{◌≡◌, ℕ, zero, suc, Bool, true, false, List, [], ◌∷◌, length, Option, Some, None, Result, Ok, Err, refl, ap, ◌∙◌, if◌then◌else◌}
use Rattle.std.specs.Prelude.{slice_get}
use Rattle.pass_kept_proof.specs.run_memory.Memory.{compare, end, fresh}
use Rattle.pass_kept_proof.specs.run_memory.declared.block.MemoryBlock.{MemoryBlock}
use Rattle.pass_kept_proof.specs.run_memory.declared.pointer.Pointer.{Pointer}
use Rattle.pass_kept_proof.specs.run_memory.declared.pointer.Value.{Value}
use Rattle.pass_kept_proof.specs.ir_base.declared.cause.Cause.{Cause}
use Rattle.pass_kept_proof.specs.ir_base.declared.ops.Pred.{Pred}
use Rattle.pass_kept_proof.specs.ir_base.declared.outcome.Word.{Word}
use Rattle.pass_kept_proof.specs.run_ints.Numbers.{binary}
use Rattle.pass_kept_proof.specs.ir_model.Layout.{size_of}
use Rattle.pass_kept_proof.specs.ir_model.Names.{declaration_named, function_named}
use Rattle.pass_kept_proof.specs.ir_model.Ty.{Ty, array, int, named, ptr, structure, token}
use Rattle.pass_kept_proof.specs.ir_model.declared.instr.Case.{Case}
use Rattle.pass_kept_proof.specs.ir_model.declared.instr.Instr.{Instr}
use Rattle.pass_kept_proof.specs.ir_model.declared.instr.Terminator.{Terminator}
use Rattle.pass_kept_proof.specs.ir_model.declared.operand.Allocator.{Allocator}
use Rattle.pass_kept_proof.specs.ir_model.declared.operand.Arg.{Arg}
use Rattle.pass_kept_proof.specs.ir_model.declared.operand.Callee.{Callee}
use Rattle.pass_kept_proof.specs.ir_model.declared.operand.Intrinsic.{Intrinsic}
use Rattle.pass_kept_proof.specs.run_step.Step.{Action, AtInstr, AtTerm, Context, Done, Enter, Fetched, NewSlot, Nowhere, Stuck, Work, action_of, alloca, alloca_kind, allocated, allocator_call, branch, by_pred, compared, copied_bytes, done, fits_function, has_markers, if_alignment, indirect_call, instr_action, intrinsic_call, is_alignment, named_call, observed, set_memory, set_value, switch, term_action, value_at, with_length, words_of}
use Rattle.pass_kept_proof.specs.run_step.Values.{access_of, address, arg_value, arg_values, distance, indices_of, nth, number_at, pointer_to, stored, truth_value, value_in, with_result}
use Rattle.pass_renewed_proof.proofs.Muted.{compare_muted, copy_muted, element_muted, load_muted, muted_change, muted_ended, muted_fresh, muted_length, muted_result, muted_started, shown_address, store_muted}
use Rattle.pass_renewed_proof.specs.Muted.{IsShown, IsShownOperand, muted, muted_action, muted_work}
use Rattle.run_laws.specs.changed.Changed.{Each, operands_at, values_of}

module _ (hides : ℕ → Bool) (c : Context) (w : Work) (new : hides (length w.world.memory) ≡ false) where
  abbrev m : List MemoryBlock
  m = w.world.memory

  abbrev n : List MemoryBlock
  n = muted hides w.world.memory

  abbrev v : Work
  v = muted_work hides w

  abbrev Same : Action → Action → Type 0
  Same a b = a ≡ muted_action hides b

  -- ---- what goes on behind a test, a length or a result

  done_same : {A : Type 0} (f g : A → Work) (r r' : Result A Cause) → r ≡ r' → ((a : A) → f a ≡ muted_work hides (g a)) → Same (done f r) (done g r')
  done_same f g r r' e h = ap (done f) e ∙ on r'
    where
      on : (r : Result _ Cause) → Same (done f r) (done g r)
      on (Err cause) = refl
      on (Ok a) = ap Done (h a)

  memory_same : (r r' : Result (List MemoryBlock) Cause) → r ≡ muted_result hides r' → Same (done (set_memory v) r) (done (set_memory w) r')
  memory_same r r' e = ap (done (set_memory v)) e ∙ on r'
    where
      on : (r : Result (List MemoryBlock) Cause) → Same (done (set_memory v) (muted_result hides r)) (done (set_memory w) r)
      on (Err cause) = refl
      on (Ok k) = refl

  if_same : (align : ℕ) (a b : Action) → Same a b → Same (if_alignment align a) (if_alignment align b)
  if_same align a b h = on (is_alignment align)
    where
      on : (t : Bool) → Same (if t then a else Stuck Cause.Align) (if t then b else Stuck Cause.Align)
      on true = h
      on false = refl

  length_same : (u : Value) (f g : ℕ → Action) → ((k : ℕ) → Same (f k) (g k)) → Same (with_length u f) (with_length u g)
  length_same (Value.Int y) f g h = h y.bits
  length_same Value.Poison f g h = refl
  length_same (Value.Ptr p) f g h = refl

  -- ---- arguments

  nth_shown : (args : List Arg) (i : ℕ) → Each (IsShownOperand hides c w) (values_of args) → IsShown hides (nth (arg_values c.code w.values args) i)
  nth_shown [] i h = tt
  nth_shown (a ∷ args) zero h = h.0 a.ty
  nth_shown (a ∷ args) (suc i) h = nth_shown args i h.1

  -- ---- comparisons

  pointers_same : (name : ℕ) (pred : Pred) (a b : Value) → IsShown hides a → IsShown hides b → Same (done (λ same. set_value v name (truth_value (by_pred pred same))) (compare c.rights n (address a) (address b))) (done (λ same. set_value w name (truth_value (by_pred pred same))) (compare c.rights m (address a) (address b)))
  pointers_same name pred a b h k = done_same _ _ _ _ (compare_muted hides c.rights m (address a) (address b) (shown_address hides a h) (shown_address hides b k)) (λ t. refl)

  compared_same : (name : ℕ) (pred : Pred) (ty : Ty) (a b : Value) → IsShown hides a → IsShown hides b → Same (compared c v name pred ty a b) (compared c w name pred ty a b)
  compared_same name pred (int k) a b ha hb = refl
  compared_same name pred ptr a b ha hb = pointers_same name pred a b ha hb
  compared_same name pred token a b ha hb = pointers_same name pred a b ha hb
  compared_same name pred (array k t) a b ha hb = pointers_same name pred a b ha hb
  compared_same name pred (structure ts) a b ha hb = pointers_same name pred a b ha hb
  compared_same name pred (named k) a b ha hb = pointers_same name pred a b ha hb

  -- ---- calls

  observed_same : (d : ℕ) (ty : Option Ty) (result : Option ℕ) (args : Option (List Word)) → Same (observed c v d ty result args) (observed c w d ty result args)
  observed_same d ty result None = refl
  observed_same d None result (Some args) = refl
  observed_same d (Some ty) result (Some args) = refl

  named_same : (f d : Option ℕ) (ty : Option Ty) (result : Option ℕ) (must_tail : Bool) (vs : List Value) → Same (named_call c v f d ty result must_tail vs) (named_call c w f d ty result must_tail vs)
  named_same (Some f) d ty result must_tail vs = refl
  named_same None (Some d) ty result must_tail vs = observed_same d ty result (words_of vs)
  named_same None None ty result must_tail vs = refl

  indirect_same : (u : Value) (ty : Option Ty) (result : Option ℕ) (must_tail : Bool) (args : List Arg) (vs : List Value) → Same (indirect_call c u ty result must_tail args vs) (indirect_call c u ty result must_tail args vs)
  indirect_same (Value.Ptr (Pointer.Func f)) ty result must_tail args vs = on (fits_function ty args (slice_get c.code.functions f))
    where
      on : (t : Bool) → Same (if t then Enter f vs result must_tail else Stuck Cause.Call) (if t then Enter f vs result must_tail else Stuck Cause.Call)
      on true = refl
      on false = refl
  indirect_same (Value.Ptr Pointer.Null) ty result must_tail args vs = refl
  indirect_same (Value.Ptr (Pointer.At b o)) ty result must_tail args vs = refl
  indirect_same Value.Poison ty result must_tail args vs = refl
  indirect_same (Value.Int y) ty result must_tail args vs = refl

  copied_same : (args : List Arg) → Each (IsShownOperand hides c w) (values_of args) → Same (copied_bytes c v (arg_values c.code w.values args)) (copied_bytes c w (arg_values c.code w.values args))
  copied_same args h = length_same (nth (arg_values c.code w.values args) 2) _ _ (λ k. memory_same _ _ (copy_muted hides c.rights m _ _ k (shown_address hides _ (nth_shown args 0 h)) (shown_address hides _ (nth_shown args 1 h))))

  intrinsic_same : (i : Intrinsic) (result : Option ℕ) (args : List Arg) → Each (IsShownOperand hides c w) (values_of args) → Same (intrinsic_call c v i result args (arg_values c.code w.values args)) (intrinsic_call c w i result args (arg_values c.code w.values args))
  intrinsic_same Intrinsic.LifetimeStart result args h = ap (λ k. Done (set_memory v k)) (muted_started hides m (nth (arg_values c.code w.values args) 1) (nth_shown args 1 h))
  intrinsic_same Intrinsic.LifetimeEnd result args h = ap (λ k. Done (set_memory v k)) (muted_ended hides m (nth (arg_values c.code w.values args) 1) (nth_shown args 1 h))
  intrinsic_same Intrinsic.MemcpyI64 result args h = copied_same args h
  intrinsic_same Intrinsic.MemcpyI32 result args h = copied_same args h
  intrinsic_same _ result args h = refl

  allocated_same : (result : Option ℕ) (size : ℕ) → allocated v result size ≡ muted_work hides (allocated w result size)
  allocated_same result size =
      ap (λ k. record (allocated v result size) { world = record (allocated v result size).world { memory = k } }) (muted_fresh hides m size 16 _ new)
      ∙ ap (λ k. record (muted_work hides (allocated w result size)) { values = with_result w.values result (pointer_to k) }) (muted_length hides m)

  allocator_same : (a : Allocator) (result : Option ℕ) (vs : List Value) → Same (allocator_call a v result vs) (allocator_call a w result vs)
  allocator_same Allocator.Malloc result vs = length_same (nth vs 0) _ _ (λ k. ap Done (allocated_same result k))
  allocator_same Allocator.Znwm result vs = length_same (nth vs 0) _ _ (λ k. ap Done (allocated_same result k))
  allocator_same Allocator.Free result vs = refl
  allocator_same Allocator.ZdlPv result vs = refl
  allocator_same Allocator.ZdlPvm result vs = refl

  call_same : (result : Option ℕ) (must_tail : Bool) (ty : Option Ty) (callee : Callee) (args : List Arg) → Each (IsShownOperand hides c w) (operands_at (AtInstr (Instr.Call result must_tail ty callee args))) → Same (instr_action c v (Instr.Call result must_tail ty callee args)) (instr_action c w (Instr.Call result must_tail ty callee args))
  call_same result must_tail ty (Callee.Named k) args h = named_same (function_named c.code k) (declaration_named c.code k) ty result must_tail (arg_values c.code w.values args)
  call_same result must_tail ty (Callee.Allocator a) args h = allocator_same a result (arg_values c.code w.values args)
  call_same result must_tail ty (Callee.Intrinsic i) args h = intrinsic_same i result args h
  call_same result must_tail ty (Callee.Local name) args h = indirect_same (value_in w.values name) ty result must_tail args (arg_values c.code w.values args)

  -- ---- allocas

  -- an alloca over a memory, with the number of its block
  abbrev made_at : List MemoryBlock → ℕ → ℕ → ℕ → ℕ → Bool → Action
  made_at k b name size align marked =
      NewSlot (set_memory (set_value w name (pointer_to b)) (if marked then end (fresh k size align (alloca_kind c.function)) b else fresh k size align (alloca_kind c.function))) (record { alloca = name; block = b })

  alloca_same : (name size align : ℕ) → Same (alloca c v name size align) (alloca c w name size align)
  alloca_same name size align = ap (λ b. made_at n b name size align (has_markers c.function name)) (muted_length hides m) ∙ on (has_markers c.function name)
    where
      made : fresh n size align (alloca_kind c.function) ≡ muted hides (fresh m size align (alloca_kind c.function))
      made = muted_fresh hides m size align (alloca_kind c.function) new

      on : (t : Bool) → Same (made_at n (length m) name size align t) (made_at m (length m) name size align t)
      on true = ap (λ k. NewSlot (set_memory (set_value w name (pointer_to (length m))) k) (record { alloca = name; block = length m })) (ap (λ k. end k (length m)) made ∙ muted_change hides (fresh m size align (alloca_kind c.function)) (length m) _ new)
      on false = ap (λ k. NewSlot (set_memory (set_value w name (pointer_to (length m))) k) (record { alloca = name; block = length m })) made

  -- ---- instructions and terminators

  instr_same : (i : Instr) → Each (IsShownOperand hides c w) (operands_at (AtInstr i)) → Same (instr_action c v i) (instr_action c w i)
  instr_same (Instr.Binary name op flags ty a b) h = done_same _ _ (binary op flags (number_at ty (value_at c w ty a)) (number_at ty (value_at c w ty b))) _ refl (λ k. refl)
  instr_same (Instr.Icmp name pred ty a b) h = compared_same name pred ty (value_at c w ty a) (value_at c w ty b) (h.0 ty) (h.1.0 ty)
  instr_same (Instr.Select name x a b) h = refl
  instr_same (Instr.Cast name op nneg arg to) h = refl
  instr_same (Instr.Alloca name ty align) h = if_same align _ _ (alloca_same name (size_of c.code ty) align)
  instr_same (Instr.Load name ty p align) h =
      if_same align _ _ (done_same _ _ _ _ (load_muted hides c.rights m (address (value_at c w ptr p)) (access_of ty) align (shown_address hides _ (h.0 ptr))) (λ k. refl))
  instr_same (Instr.Store arg p align) h =
      if_same align _ _ (memory_same _ _ (store_muted hides c.rights m (address (value_at c w ptr p)) (stored (access_of arg.ty) (arg_value c.code w.values arg)) (access_of arg.ty) align (shown_address hides _ (h.1.0 ptr))))
  instr_same (Instr.Gep name inbounds ty base indices) h =
      ap (λ u. Done (set_value v name u)) (element_muted hides m inbounds (value_at c w ptr base) (distance c.code ty (indices_of c.code w.values indices)) (h.0 ptr))
  instr_same (Instr.Call result must_tail ty callee args) h = call_same result must_tail ty callee args h

  branch_same : (u : Value) (a b : ℕ) → Same (branch u a b) (branch u a b)
  branch_same (Value.Int y) a b = refl
  branch_same Value.Poison a b = refl
  branch_same (Value.Ptr p) a b = refl

  switch_same : (u : Value) (default : ℕ) (cases : List Case) → Same (switch c.code u default cases) (switch c.code u default cases)
  switch_same (Value.Int y) default cases = refl
  switch_same Value.Poison default cases = refl
  switch_same (Value.Ptr p) default cases = refl

  term_same : (t : Terminator) → Same (term_action c v t) (term_action c w t)
  term_same (Terminator.Jump label) = refl
  term_same (Terminator.Branch y a b) = branch_same (value_at c w (int 1) y) a b
  term_same (Terminator.Switch arg default cases) = switch_same (arg_value c.code w.values arg) default cases
  term_same (Terminator.Ret None) = refl
  term_same (Terminator.Ret (Some arg)) = refl
  term_same Terminator.Unreachable = refl

  pub step_muted : (here : Fetched) → Each (IsShownOperand hides c w) (operands_at here) → action_of c (muted_work hides w) here ≡ muted_action hides (action_of c w here)
  step_muted Nowhere h = refl
  step_muted (AtInstr i) h = instr_same i h
  step_muted (AtTerm t) h = term_same t
