-- A step over two memories that differ only in what bytes of blocks hold that it doesn't access.
use Rattle.std.proofs.Common.{◌≡◌, ℕ, Bool, true, false, List, [], ◌∷◌, length, Option, Some, None, Result, Ok, Err, refl, sym, ap, subst, if◌then◌else◌}
use Rattle.std.specs.Prelude.{slice_get}
use Rattle.run_memory.specs.Memory.{compare, copy, end, ended, fresh, load, start, started, with_block}
use Rattle.run_memory.specs.declared.block.Kind.{Kind}
use Rattle.run_memory.specs.declared.block.MemoryBlock.{MemoryBlock}
use Rattle.run_memory.specs.declared.pointer.Pointer.{Pointer}
use Rattle.run_memory.specs.declared.pointer.Value.{Value}
use Rattle.ir_base.specs.declared.cause.Cause.{Cause}
use Rattle.ir_base.specs.declared.ops.Pred.{Pred}
use Rattle.ir_base.specs.declared.outcome.Word.{Word}
use Rattle.run_ints.specs.Numbers.{binary}
use Rattle.ir_model.specs.Layout.{size_of}
use Rattle.ir_model.specs.Names.{declaration_named, function_named}
use Rattle.ir_model.specs.Ty.{Ty, array, int, named, ptr, structure, token}
use Rattle.ir_model.specs.declared.instr.Case.{Case}
use Rattle.ir_model.specs.declared.instr.Instr.{Instr}
use Rattle.ir_model.specs.declared.instr.Terminator.{Terminator}
use Rattle.ir_model.specs.declared.operand.Allocator.{Allocator}
use Rattle.ir_model.specs.declared.operand.Arg.{Arg}
use Rattle.ir_model.specs.declared.operand.Callee.{Callee}
use Rattle.ir_model.specs.declared.operand.Intrinsic.{Intrinsic}
use Rattle.run_laws.specs.memory.Standing.{AreByteRights}
use Rattle.run_step.specs.Step.{Action, AtInstr, AtTerm, Context, Done, Enter, Fetched, NewSlot, Nowhere, Stuck, Work, action_of, alloca, alloca_kind, allocated, allocator_call, block_of, branch, by_pred, compared, done, fits_function, has_markers, if_alignment, indirect_call, instr_action, intrinsic_call, is_alignment, named_call, observed, on_block, risen, set_memory, set_value, switch, term_action, with_length, words_of}
use Rattle.run_step.specs.Values.{access_of, address, arg_value, arg_values, distance, indices_of, nth, number_at, operand_value, pointer_to, stored, truth_value, value_in, value_of, with_result}
use Rattle.run_laws.proofs.access.Reading.{GivesSame, as_many, compare_same, copy_same, element_same, load_same, same_after, same_new, store_same}
use Rattle.run_laws.specs.access.Accessed.{accessed, allocator_accesses, as_list, by_copy, call_accesses, intrinsic_accesses, led_into, of_length}
use Rattle.run_laws.specs.access.Reading.{AreSame, DifferBut, DoesSame}
use Rattle.run_laws.specs.embedded.Refilled.{AreRefilled}

module _ (c : Context) (law : AreByteRights c.rights) (w : Work) (k : List MemoryBlock) (refilled : AreRefilled w.world.memory k) where
  abbrev m : List MemoryBlock
  m = w.world.memory

  abbrev other : Work
  other = set_memory w k

  abbrev Same : List ℕ → Type 0
  Same blocks = AreSame blocks m k

  -- the memory is left as it is
  unchanged : {A : Type 0} (blocks : List ℕ) (f g : A → Work) (r s : Result A Cause) → ((a : A) → g a ≡ set_memory (f a) k) → ((a : A) → (f a).world.memory ≡ m) → s ≡ r → Same blocks → DoesSame blocks (done f r) (done g s)
  unchanged blocks f g r s is stays e h = subst (λ (q : Result _ Cause). DoesSame blocks (done f r) (done g q)) (sym e) (on r)
    where
      on : (r : Result _ Cause) → DoesSame blocks (done f r) (done g r)
      on (Err cause) = refl
      on (Ok a) = (k, (ap Done (is a), subst (λ (n : List MemoryBlock). AreSame blocks n k) (sym (stays a)) h))

  -- the memory is another one
  given : (blocks : List ℕ) (r s : Result (List MemoryBlock) Cause) → GivesSame blocks r s → DoesSame blocks (done (set_memory w) r) (done (set_memory other) s)
  given blocks (Err cause) s h = ap (done (set_memory other)) h
  given blocks (Ok n) s h = (h.0, (ap (done (set_memory other)) h.1.0, h.1.1))

  if_same : (blocks : List ℕ) (align : ℕ) (a b : Action) → DoesSame blocks a b → DoesSame blocks (if_alignment align a) (if_alignment align b)
  if_same blocks align a b h = on (is_alignment align)
    where
      on : (t : Bool) → DoesSame blocks (if t then a else Stuck Cause.Align) (if t then b else Stuck Cause.Align)
      on true = h
      on false = refl

  pointers_same : (name : ℕ) (pred : Pred) (a b : Value) → DoesSame [] (done (λ same. set_value w name (truth_value (by_pred pred same))) (compare c.rights m a b)) (done (λ same. set_value other name (truth_value (by_pred pred same))) (compare c.rights k a b))
  pointers_same name pred a b = unchanged [] (λ same. set_value w name (truth_value (by_pred pred same))) (λ same. set_value other name (truth_value (by_pred pred same))) (compare c.rights m a b) (compare c.rights k a b) (λ t. refl) (λ t. refl) (compare_same c.rights law m k refilled a b) tt

  compared_same : (name : ℕ) (pred : Pred) (ty : Ty) (a b : Value) → DoesSame [] (compared c w name pred ty a b) (compared c other name pred ty a b)
  compared_same name pred (int n) a b = (k, (refl, tt))
  compared_same name pred ptr a b = pointers_same name pred (address a) (address b)
  compared_same name pred token a b = pointers_same name pred (address a) (address b)
  compared_same name pred (array n t) a b = pointers_same name pred (address a) (address b)
  compared_same name pred (structure ts) a b = pointers_same name pred (address a) (address b)
  compared_same name pred (named n) a b = pointers_same name pred (address a) (address b)

  -- ---- calls

  observed_same : (n : ℕ) (ty : Option Ty) (result : Option ℕ) (args : Option (List Word)) → DoesSame [] (observed c w n ty result args) (observed c other n ty result args)
  observed_same n ty result None = refl
  observed_same n None result (Some args) = (k, (refl, tt))
  observed_same n (Some ty) result (Some args) = (k, (refl, tt))

  named_same : (f n : Option ℕ) (ty : Option Ty) (result : Option ℕ) (must_tail : Bool) (vs : List Value) → DoesSame [] (named_call c w f n ty result must_tail vs) (named_call c other f n ty result must_tail vs)
  named_same (Some f) n ty result must_tail vs = refl
  named_same None (Some n) ty result must_tail vs = observed_same n ty result (words_of vs)
  named_same None None ty result must_tail vs = refl

  indirect_same : (v : Value) (ty : Option Ty) (result : Option ℕ) (must_tail : Bool) (args : List Arg) (vs : List Value) → DoesSame [] (indirect_call c v ty result must_tail args vs) (indirect_call c v ty result must_tail args vs)
  indirect_same (Value.Ptr (Pointer.Func f)) ty result must_tail args vs = on (fits_function ty args (slice_get c.code.functions f))
    where
      on : (t : Bool) → DoesSame [] (if t then Enter f vs result must_tail else Stuck Cause.Call) (if t then Enter f vs result must_tail else Stuck Cause.Call)
      on true = refl
      on false = refl
  indirect_same (Value.Ptr Pointer.Null) ty result must_tail args vs = refl
  indirect_same (Value.Ptr (Pointer.At b o)) ty result must_tail args vs = refl
  indirect_same Value.Poison ty result must_tail args vs = refl
  indirect_same (Value.Int y) ty result must_tail args vs = refl

  length_same : (v to from : Value) → Same (of_length v (by_copy to from)) → DoesSame (of_length v (by_copy to from)) (with_length v (λ n. done (set_memory w) (copy c.rights m to from n))) (with_length v (λ n. done (set_memory other) (copy c.rights k to from n)))
  length_same (Value.Int y) to from h = given (by_copy to from y.bits) (copy c.rights m to from y.bits) (copy c.rights k to from y.bits) (copy_same c.rights m k to from y.bits h)
  length_same Value.Poison to from h = refl
  length_same (Value.Ptr p) to from h = refl

  marked_same : (f : List MemoryBlock → ℕ → List MemoryBlock) (g : MemoryBlock → MemoryBlock) → ((n : List MemoryBlock) (b : ℕ) → f n b ≡ with_block n b g) → (v : Value) → Same (led_into v) → DoesSame (led_into v) (Done (set_memory w (on_block f m (block_of v)))) (Done (set_memory other (on_block f k (block_of v))))
  marked_same f g is v h = on (block_of v) h
    where
      on : (o : Option ℕ) → Same (as_list o) → DoesSame (as_list o) (Done (set_memory w (on_block f m o))) (Done (set_memory other (on_block f k o)))
      on None h = (k, (refl, tt))
      on (Some b) h = (f k b, (refl, subst (λ (q : List MemoryBlock × List MemoryBlock). AreSame (b ∷ []) q.0 q.1) (λ i. (sym (is m b) i, sym (is k b) i)) (same_after (b ∷ []) m k b g h)))

  intrinsic_same : (i : Intrinsic) (result : Option ℕ) (args : List Arg) (vs : List Value) → Same (intrinsic_accesses i vs) → DoesSame (intrinsic_accesses i vs) (intrinsic_call c w i result args vs) (intrinsic_call c other i result args vs)
  intrinsic_same Intrinsic.LifetimeStart result args vs h = marked_same start started (λ n b. refl) (nth vs 1) h
  intrinsic_same Intrinsic.LifetimeEnd result args vs h = marked_same end ended (λ n b. refl) (nth vs 1) h
  intrinsic_same Intrinsic.MemcpyI64 result args vs h = length_same (nth vs 2) (address (nth vs 0)) (address (nth vs 1)) h
  intrinsic_same Intrinsic.MemcpyI32 result args vs h = length_same (nth vs 2) (address (nth vs 0)) (address (nth vs 1)) h
  intrinsic_same _ result args vs h = refl

  long : length k ≡ length m
  long = as_many m k refilled

  allocated_same : (v : Value) (result : Option ℕ) → DoesSame (length m ∷ []) (with_length v (λ n. Done (allocated w result n))) (with_length v (λ n. Done (allocated other result n)))
  allocated_same Value.Poison result = refl
  allocated_same (Value.Ptr p) result = refl
  allocated_same (Value.Int y) result = (
    fresh k y.bits 16 Kind.Allocator,
    (ap (λ (n : ℕ). Done (record { world = record w.world { memory = fresh k y.bits 16 Kind.Allocator; allocs = risen w.world.allocs }; values = with_result w.values result (pointer_to n) })) long, same_new m k y.bits 16 Kind.Allocator long),
  )

  allocator_same : (a : Allocator) (result : Option ℕ) (vs : List Value) → DoesSame (allocator_accesses a m vs) (allocator_call a w result vs) (allocator_call a other result vs)
  allocator_same Allocator.Malloc result vs = allocated_same (nth vs 0) result
  allocator_same Allocator.Znwm result vs = allocated_same (nth vs 0) result
  allocator_same Allocator.Free result vs = refl
  allocator_same Allocator.ZdlPv result vs = refl
  allocator_same Allocator.ZdlPvm result vs = refl

  call_same : (result : Option ℕ) (must_tail : Bool) (ty : Option Ty) (callee : Callee) (args : List Arg) → Same (call_accesses callee m (arg_values c.code w.values args)) → DoesSame (call_accesses callee m (arg_values c.code w.values args)) (instr_action c w (Instr.Call result must_tail ty callee args)) (instr_action c other (Instr.Call result must_tail ty callee args))
  call_same result must_tail ty (Callee.Named n) args h = named_same (function_named c.code n) (declaration_named c.code n) ty result must_tail (arg_values c.code w.values args)
  call_same result must_tail ty (Callee.Allocator a) args h = allocator_same a result (arg_values c.code w.values args)
  call_same result must_tail ty (Callee.Intrinsic i) args h = intrinsic_same i result args (arg_values c.code w.values args) h
  call_same result must_tail ty (Callee.Local name) args h = indirect_same (value_in w.values name) ty result must_tail args (arg_values c.code w.values args)

  -- ---- an alloca

  slot_at : (name size align n : ℕ) (t : Bool) → Action
  slot_at name size align n t =
      NewSlot (set_memory (set_value other name (pointer_to n)) (if t then end (fresh k size align (alloca_kind c.function)) n else fresh k size align (alloca_kind c.function))) (record { alloca = name; block = n })

  marked_new : (size align : ℕ) (kind : Kind) (t : Bool) → AreSame (length m ∷ []) (if t then end (fresh m size align kind) (length m) else fresh m size align kind) (if t then end (fresh k size align kind) (length m) else fresh k size align kind)
  marked_new size align kind false = same_new m k size align kind long
  marked_new size align kind true = same_after (length m ∷ []) (fresh m size align kind) (fresh k size align kind) (length m) ended (same_new m k size align kind long)

  alloca_same : (name size align : ℕ) → DoesSame (length m ∷ []) (alloca c w name size align) (alloca c other name size align)
  unfolding slot_at
  alloca_same name size align = (
    if has_markers c.function name then end (fresh k size align (alloca_kind c.function)) (length m) else fresh k size align (alloca_kind c.function),
    (ap (λ (n : ℕ). slot_at name size align n (has_markers c.function name)) long, marked_new size align (alloca_kind c.function) (has_markers c.function name)),
  )

  -- ---- instructions and terminators

  instr_same : (i : Instr) → Same (accessed c w (AtInstr i)) → DoesSame (accessed c w (AtInstr i)) (instr_action c w i) (instr_action c other i)
  instr_same (Instr.Binary name op flags ty a b) h =
      unchanged [] (λ n. set_value w name (value_of n)) (λ n. set_value other name (value_of n)) (binary op flags (number_at ty (operand_value c.code w.values ty a)) (number_at ty (operand_value c.code w.values ty b))) _ (λ n. refl) (λ n. refl) refl tt
  instr_same (Instr.Icmp name pred ty a b) h = compared_same name pred ty _ _
  instr_same (Instr.Select name y a b) h = (k, (refl, tt))
  instr_same (Instr.Cast name op nneg arg to) h = (k, (refl, tt))
  instr_same (Instr.Alloca name ty align) h = if_same (length m ∷ []) align _ _ (alloca_same name (size_of c.code ty) align)
  instr_same (Instr.Load name ty p align) h =
      if_same (accessed c w (AtInstr (Instr.Load name ty p align))) align _ _
      (unchanged (accessed c w (AtInstr (Instr.Load name ty p align))) (set_value w name) (set_value other name) (load c.rights m (address (operand_value c.code w.values ptr p)) (access_of ty) align) (load c.rights k (address (operand_value c.code w.values ptr p)) (access_of ty) align) (λ v. refl) (λ v. refl)
      (load_same c.rights m k (address (operand_value c.code w.values ptr p)) (access_of ty) align h) h)
  instr_same (Instr.Store arg p align) h =
      if_same (accessed c w (AtInstr (Instr.Store arg p align))) align _ _
      (given (accessed c w (AtInstr (Instr.Store arg p align))) _ _ (store_same c.rights m k (address (operand_value c.code w.values ptr p)) (stored (access_of arg.ty) (arg_value c.code w.values arg)) (access_of arg.ty) align h))
  instr_same (Instr.Gep name inbounds ty base indices) h = (
    k,
    (ap (λ (v : Value). Done (set_value other name v)) (element_same c.rights law m k refilled inbounds (operand_value c.code w.values ptr base) (distance c.code ty (indices_of c.code w.values indices))), tt),
  )
  instr_same (Instr.Call result must_tail ty callee args) h = call_same result must_tail ty callee args h

  branch_same : (v : Value) (a b : ℕ) → DoesSame [] (branch v a b) (branch v a b)
  branch_same (Value.Int y) a b = refl
  branch_same Value.Poison a b = refl
  branch_same (Value.Ptr p) a b = refl

  switch_same : (v : Value) (default : ℕ) (cases : List Case) → DoesSame [] (switch c.code v default cases) (switch c.code v default cases)
  switch_same (Value.Int y) default cases = refl
  switch_same Value.Poison default cases = refl
  switch_same (Value.Ptr p) default cases = refl

  term_same : (t : Terminator) → DoesSame [] (term_action c w t) (term_action c other t)
  term_same (Terminator.Jump label) = refl
  term_same (Terminator.Branch y a b) = branch_same (operand_value c.code w.values (int 1) y) a b
  term_same (Terminator.Switch arg default cases) = switch_same (arg_value c.code w.values arg) default cases
  term_same (Terminator.Ret None) = refl
  term_same (Terminator.Ret (Some arg)) = refl
  term_same Terminator.Unreachable = refl

  here_same : (here : Fetched) → Same (accessed c w here) → DoesSame (accessed c w here) (action_of c w here) (action_of c other here)
  here_same Nowhere h = refl
  here_same (AtInstr i) h = instr_same i h
  here_same (AtTerm t) h = term_same t

pub step_reads : (c : Context) (w : Work) (k : List MemoryBlock) (here : Fetched) → AreByteRights c.rights → DifferBut (accessed c w here) w.world.memory k → DoesSame (accessed c w here) (action_of c w here) (action_of c (set_memory w k) here)
step_reads c w k here law d = here_same c law w k d.refilled here d.same
