-- An ordinary step spreads no pointer into some blocks, where none of the operands that it may spread is one.
use Rattle.std.proofs.Common.{◌≡◌, ℕ, Bool, true, false, List, [], ◌∷◌, length, Option, Some, None, Result, Ok, Err, refl, if◌then◌else◌}
use Rattle.std.specs.Prelude.{slice_get}
use Rattle.pass_kept_proof.specs.run_memory.Memory.{compare, end, fresh, load}
use Rattle.pass_kept_proof.specs.run_memory.declared.block.MemoryBlock.{MemoryBlock}
use Rattle.pass_kept_proof.specs.run_memory.declared.pointer.Pointer.{Pointer}
use Rattle.pass_kept_proof.specs.run_memory.declared.pointer.Value.{Value}
use Rattle.pass_kept_proof.specs.ir_base.declared.cause.Cause.{Cause}
use Rattle.pass_kept_proof.specs.ir_base.declared.ops.CastOp.{CastOp}
use Rattle.pass_kept_proof.specs.ir_base.declared.ops.Pred.{Pred}
use Rattle.pass_kept_proof.specs.ir_base.declared.outcome.Word.{Word}
use Rattle.pass_kept_proof.specs.run_ints.Numbers.{binary}
use Rattle.pass_kept_proof.specs.run_ints.declared.num.Num.{Num}
use Rattle.pass_kept_proof.specs.ir_model.Layout.{size_of}
use Rattle.pass_kept_proof.specs.ir_model.Names.{declaration_named, function_named}
use Rattle.pass_kept_proof.specs.ir_model.Ty.{Ty, array, int, named, ptr, structure, token}
use Rattle.pass_kept_proof.specs.ir_model.declared.instr.Case.{Case}
use Rattle.pass_kept_proof.specs.ir_model.declared.instr.Instr.{Instr}
use Rattle.pass_kept_proof.specs.ir_model.declared.instr.Terminator.{Terminator}
use Rattle.pass_kept_proof.specs.ir_model.declared.operand.Allocator.{Allocator}
use Rattle.pass_kept_proof.specs.ir_model.declared.operand.Arg.{Arg}
use Rattle.pass_kept_proof.specs.ir_model.declared.operand.Callee.{Callee}
use Rattle.pass_kept_proof.specs.ir_model.declared.operand.Intrinsic.{Intrinsic}
use Rattle.pass_kept_proof.specs.run_step.Step.{Action, AtInstr, AtTerm, Context, Done, Enter, Fetched, Nowhere, Stuck, Work, action_of, alloca, alloca_kind, allocator_call, block_of, branch, by_pred, cast_to, chosen, compared, copied_bytes, done, fits_function, has_markers, if_alignment, indirect_call, instr_action, intrinsic_call, is_alignment, named_call, observed, set_memory, set_value, switch, term_action, value_at, with_length, words_of}
use Rattle.pass_kept_proof.specs.run_step.Values.{access_of, address, arg_value, arg_values, distance, indices_of, literal, nth, number_at, stored, truth_value, value_in, value_of}
use Rattle.pass_kept_proof.specs.run_ints.Numbers.{cast}
use Rattle.pass_renewed_proof.proofs.Shown.{IsShownResult, copy_shown, element_shown, ended_shown, fresh_shown, keeps_itself, load_shown, result_shown, set_shown, started_shown, store_shown, stored_shown, value_shown}
use Rattle.pass_renewed_proof.specs.Muted.{IsShown, IsShownOperand}
use Rattle.pass_renewed_proof.specs.Shown.{AreShownBlocks, IsShownAction, spread_at}
use Rattle.std.specs.Prelude.{ℤ}
use Rattle.run_laws.specs.changed.Changed.{Each, values_of}
use Rattle.run_laws.specs.embedded.Related.{HasNoSlot}

module _ (hides : ℕ → Bool) (c : Context) (w : Work) (shown : AreShownBlocks hides w.world.memory) where
  abbrev m : List MemoryBlock
  m = w.world.memory

  abbrev Fine : Action → Type 0
  Fine a = IsShownAction hides w.values a

  done_fine : {A : Type 0} (f : A → Work) (r : Result A Cause) → ((a : A) → r ≡ Ok a → Fine (Done (f a))) → Fine (done f r)
  done_fine f (Err cause) h = tt
  done_fine f (Ok a) h = h a refl

  set_fine : (name : ℕ) (v : Value) → IsShown hides v → Fine (Done (set_value w name v))
  set_fine name v h = (shown, set_shown hides w.values name v h)

  if_fine : (align : ℕ) (a : Action) → Fine a → Fine (if_alignment align a)
  if_fine align a h = on (is_alignment align)
    where
      on : (t : Bool) → Fine (if t then a else Stuck Cause.Align)
      on true = h
      on false = tt

  length_fine : (v : Value) (f : ℕ → Action) → ((n : ℕ) → Fine (f n)) → Fine (with_length v f)
  length_fine (Value.Int y) f h = h y.bits
  length_fine Value.Poison f h = tt
  length_fine (Value.Ptr p) f h = tt

  -- ---- values

  cast_fine : (op : CastOp) (nneg : Bool) (n : Num) (ty : Ty) → IsShown hides (cast_to op nneg n ty)
  cast_fine op nneg n (int k) = value_shown hides (cast op nneg n k)
  cast_fine op nneg n ptr = tt
  cast_fine op nneg n token = tt
  cast_fine op nneg n (array k t) = tt
  cast_fine op nneg n (structure ts) = tt
  cast_fine op nneg n (named k) = tt

  chosen_fine : (x a b : Value) → IsShown hides a → IsShown hides b → IsShown hides (chosen x a b)
  chosen_fine Value.Poison a b ha hb = tt
  chosen_fine (Value.Ptr p) a b ha hb = tt
  chosen_fine (Value.Int x) a b ha hb = on _
    where
      on : (t : Bool) → IsShown hides (if t then a else b)
      on true = ha
      on false = hb

  literal_fine : (ty : Ty) (z : ℤ) → IsShown hides (literal ty z)
  literal_fine (int k) z = tt
  literal_fine ptr z = tt
  literal_fine token z = tt
  literal_fine (array k t) z = tt
  literal_fine (structure ts) z = tt
  literal_fine (named k) z = tt

  args_fine : (args : List Arg) → Each (IsShownOperand hides c w) (values_of args) → Each (IsShown hides) (arg_values c.code w.values args)
  args_fine [] h = tt
  args_fine (a ∷ args) h = (h.0 a.ty, args_fine args h.1)

  pointers_fine : (name : ℕ) (pred : Pred) (r : Result Bool Cause) → Fine (done (λ same. set_value w name (truth_value (by_pred pred same))) r)
  pointers_fine name pred r = done_fine (λ same. set_value w name (truth_value (by_pred pred same))) r (λ t e. set_fine name _ tt)

  compared_fine : (name : ℕ) (pred : Pred) (ty : Ty) (a b : Value) → Fine (compared c w name pred ty a b)
  compared_fine name pred (int n) a b = set_fine name _ (value_shown hides _)
  compared_fine name pred ptr a b = pointers_fine name pred (compare c.rights m (address a) (address b))
  compared_fine name pred token a b = pointers_fine name pred (compare c.rights m (address a) (address b))
  compared_fine name pred (array n t) a b = pointers_fine name pred (compare c.rights m (address a) (address b))
  compared_fine name pred (structure ts) a b = pointers_fine name pred (compare c.rights m (address a) (address b))
  compared_fine name pred (named n) a b = pointers_fine name pred (compare c.rights m (address a) (address b))

  -- ---- calls

  observed_fine : (n : ℕ) (ty : Option Ty) (result : Option ℕ) (args : Option (List Word)) → Fine (observed c w n ty result args)
  observed_fine n ty result None = tt
  observed_fine n None result (Some args) = (shown, result_shown hides w.values result Value.Poison tt)
  observed_fine n (Some ty) result (Some args) = (shown, result_shown hides w.values result _ (literal_fine ty _))

  named_fine : (f n : Option ℕ) (ty : Option Ty) (result : Option ℕ) (must_tail : Bool) (vs : List Value) → Each (IsShown hides) vs → Fine (named_call c w f n ty result must_tail vs)
  named_fine (Some f) n ty result must_tail vs h = h
  named_fine None (Some n) ty result must_tail vs h = observed_fine n ty result (words_of vs)
  named_fine None None ty result must_tail vs h = tt

  indirect_fine : (v : Value) (ty : Option Ty) (result : Option ℕ) (must_tail : Bool) (args : List Arg) (vs : List Value) → Each (IsShown hides) vs → Fine (indirect_call c v ty result must_tail args vs)
  indirect_fine (Value.Ptr (Pointer.Func f)) ty result must_tail args vs h = on (fits_function ty args (slice_get c.code.functions f))
    where
      on : (t : Bool) → Fine (if t then Enter f vs result must_tail else Stuck Cause.Call)
      on true = h
      on false = tt
  indirect_fine (Value.Ptr Pointer.Null) ty result must_tail args vs h = tt
  indirect_fine (Value.Ptr (Pointer.At b o)) ty result must_tail args vs h = tt
  indirect_fine Value.Poison ty result must_tail args vs h = tt
  indirect_fine (Value.Int y) ty result must_tail args vs h = tt

  memory_fine : (r : Result (List MemoryBlock) Cause) → IsShownResult hides r → Fine (done (set_memory w) r)
  memory_fine (Err cause) h = tt
  memory_fine (Ok k) h = (h, keeps_itself hides w.values)

  copied_fine : (vs : List Value) → Fine (copied_bytes c w vs)
  copied_fine vs = length_fine (nth vs 2) _ (λ n. memory_fine _ (copy_shown hides c.rights m (address (nth vs 0)) (address (nth vs 1)) n shown))

  intrinsic_fine : (i : Intrinsic) (result : Option ℕ) (args : List Arg) (vs : List Value) → Fine (intrinsic_call c w i result args vs)
  intrinsic_fine Intrinsic.LifetimeStart result args vs = (started_shown hides m (block_of (nth vs 1)) shown, keeps_itself hides w.values)
  intrinsic_fine Intrinsic.LifetimeEnd result args vs = (ended_shown hides m (block_of (nth vs 1)) shown, keeps_itself hides w.values)
  intrinsic_fine Intrinsic.MemcpyI64 result args vs = copied_fine vs
  intrinsic_fine Intrinsic.MemcpyI32 result args vs = copied_fine vs
  intrinsic_fine _ result args vs = tt

  -- the next block isn't hidden
  abbrev IsNextShown : Type 0
  IsNextShown = hides (length w.world.memory) ≡ false

  allocator_fine : (a : Allocator) (result : Option ℕ) (vs : List Value)
      → ((HasNoSlot (AtInstr (Instr.Call result false None (Callee.Allocator a) [])) → ⊥) → IsNextShown)
      → Fine (allocator_call a w result vs)
  allocator_fine Allocator.Malloc result vs new
      = length_fine (nth vs 0) _ (λ n. (
        fresh_shown hides m n 16 _ shown,
        result_shown hides w.values result _
            (new (λ h. h)),
      ))
  allocator_fine Allocator.Znwm result vs new
      = length_fine (nth vs 0) _ (λ n. (
        fresh_shown hides m n 16 _ shown,
        result_shown hides w.values result _
            (new (λ h. h)),
      ))
  allocator_fine Allocator.Free result vs new = tt
  allocator_fine Allocator.ZdlPv result vs new = tt
  allocator_fine Allocator.ZdlPvm result vs new = tt

  -- whether a call makes a block goes by its callee alone
  by_callee : (result : Option ℕ) (must_tail : Bool) (ty : Option Ty) (a : Allocator) (args : List Arg)
      → HasNoSlot (AtInstr (Instr.Call result must_tail ty (Callee.Allocator a) args))
      → HasNoSlot (AtInstr (Instr.Call result false None (Callee.Allocator a) []))
  by_callee result must_tail ty Allocator.Malloc args h = h
  by_callee result must_tail ty Allocator.Znwm args h = h
  by_callee result must_tail ty Allocator.Free args h = tt
  by_callee result must_tail ty Allocator.ZdlPv args h = tt
  by_callee result must_tail ty Allocator.ZdlPvm args h = tt

  call_fine : (result : Option ℕ) (must_tail : Bool) (ty : Option Ty) (callee : Callee) (args : List Arg)
      → ((HasNoSlot (AtInstr (Instr.Call result must_tail ty callee args)) → ⊥) → IsNextShown)
      → Each (IsShownOperand hides c w) (spread_at (AtInstr (Instr.Call result must_tail ty callee args)))
      → Fine (instr_action c w (Instr.Call result must_tail ty callee args))
  call_fine result must_tail ty (Callee.Named n) args new h
      = named_fine (function_named c.code n) (declaration_named c.code n) ty result must_tail
      (arg_values c.code w.values args) (args_fine args h)
  call_fine result must_tail ty (Callee.Allocator a) args new h
      = allocator_fine a result (arg_values c.code w.values args)
      (λ no. new (λ k. no (by_callee result must_tail ty a args k)))
  call_fine result must_tail ty (Callee.Intrinsic i) args new h
      = intrinsic_fine i result args (arg_values c.code w.values args)
  call_fine result must_tail ty (Callee.Local name) args new h
      = indirect_fine (value_in w.values name) ty result must_tail args (arg_values c.code w.values args)
      (args_fine args h.1)

  alloca_fine : (name size align : ℕ) → IsNextShown → Fine (alloca c w name size align)
  alloca_fine name size align new = (on (has_markers c.function name), set_shown hides w.values name _ new)
    where
      made : AreShownBlocks hides (fresh m size align (alloca_kind c.function))
      made = fresh_shown hides m size align (alloca_kind c.function) shown

      on : (t : Bool) → AreShownBlocks hides (if t then end (fresh m size align (alloca_kind c.function)) (length m) else fresh m size align (alloca_kind c.function))
      on true = ended_shown hides (fresh m size align (alloca_kind c.function)) (Some (length m)) made
      on false = made

  -- ---- instructions and terminators

  instr_fine : (i : Instr) → ((HasNoSlot (AtInstr i) → ⊥) → IsNextShown)
      → Each (IsShownOperand hides c w) (spread_at (AtInstr i)) → Fine (instr_action c w i)
  instr_fine (Instr.Binary name op flags ty a b) new h
      = done_fine (λ n. set_value w name (value_of n)) (binary op flags (number_at ty (value_at c w ty a))
      (number_at ty (value_at c w ty b))) (λ n e. set_fine name _ (value_shown hides n))
  instr_fine (Instr.Icmp name pred ty a b) new h = compared_fine name pred ty _ _
  instr_fine (Instr.Select name x a b) new h
      = set_fine name _ (chosen_fine (value_at c w (int 1) x) (arg_value c.code w.values a)
      (arg_value c.code w.values b) (h.1.0 a.ty) (h.1.1.0 b.ty))
  instr_fine (Instr.Cast name op nneg arg to) new h = set_fine name _ (cast_fine op nneg _ to)
  instr_fine (Instr.Alloca name ty align) new h
      = if_fine align _ (alloca_fine name (size_of c.code ty) align (new (λ k. k)))
  instr_fine (Instr.Load name ty p align) new h =
      if_fine align _ (done_fine (set_value w name) (load c.rights m (address (value_at c w ptr p)) (access_of ty) align) (λ v e. set_fine name v (load_shown hides c.rights m (address (value_at c w ptr p)) (access_of ty) align v shown e)))
  instr_fine (Instr.Store arg p align) new h =
      if_fine align _ (memory_fine _ (store_shown hides c.rights m (address (value_at c w ptr p)) (stored (access_of arg.ty) (arg_value c.code w.values arg)) (access_of arg.ty) align (stored_shown hides (access_of arg.ty) _ (h.0 arg.ty)) shown))
  instr_fine (Instr.Gep name inbounds ty base indices) new h
      = set_fine name _ (element_shown hides m inbounds (value_at c w ptr base)
      (distance c.code ty (indices_of c.code w.values indices)) (h.0 ptr))
  instr_fine (Instr.Call result must_tail ty callee args) new h = call_fine result must_tail ty callee args new h

  branch_fine : (v : Value) (a b : ℕ) → Fine (branch v a b)
  branch_fine (Value.Int y) a b = tt
  branch_fine Value.Poison a b = tt
  branch_fine (Value.Ptr p) a b = tt

  switch_fine : (v : Value) (default : ℕ) (cases : List Case) → Fine (switch c.code v default cases)
  switch_fine (Value.Int y) default cases = tt
  switch_fine Value.Poison default cases = tt
  switch_fine (Value.Ptr p) default cases = tt

  term_fine : (t : Terminator) → Each (IsShownOperand hides c w) (spread_at (AtTerm t)) → Fine (term_action c w t)
  term_fine (Terminator.Jump label) h = tt
  term_fine (Terminator.Branch y a b) h = branch_fine (value_at c w (int 1) y) a b
  term_fine (Terminator.Switch arg default cases) h = switch_fine (arg_value c.code w.values arg) default cases
  term_fine (Terminator.Ret None) h = tt
  term_fine (Terminator.Ret (Some arg)) h = h.0 arg.ty
  term_fine Terminator.Unreachable h = tt

  pub step_shown : (here : Fetched) → ((HasNoSlot here → ⊥) → IsNextShown)
      → Each (IsShownOperand hides c w) (spread_at here) → IsShownAction hides w.values (action_of c w here)
  step_shown Nowhere new h = tt
  step_shown (AtInstr i) new h = instr_fine i new h
  step_shown (AtTerm t) new h = term_fine t h
