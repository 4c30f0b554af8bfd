-- An instruction whose locals stand at other names does the same, with its values at those names.
use Rattle.std.proofs.Common.{◌≡◌, ℕ, Bool, true, false, List, Option, Some, None, Result, Ok, Err, refl, ap}
use Rattle.std.specs.Prelude.{ℤ, ◌==◌, map, slice_get, option_map, if◌then◌else◌}
use Rattle.ir_laws.specs.run_memory.Memory.{Rights, compare, copy}
use Rattle.ir_laws.specs.run_memory.declared.block.MemoryBlock.{MemoryBlock}
use Rattle.ir_laws.specs.run_memory.declared.pointer.Pointer.{Pointer}
use Rattle.ir_laws.specs.run_memory.declared.pointer.Value.{Value}
use Rattle.ir_laws.specs.ir_base.declared.cause.Cause.{Cause}
use Rattle.ir_laws.specs.ir_base.declared.ops.Pred.{Pred}
use Rattle.ir_laws.specs.ir_base.declared.outcome.Word.{Word}
use Rattle.ir_laws.specs.ir_model.Layout.{size_of}
use Rattle.ir_laws.specs.ir_model.Names.{declaration_named, function_named}
use Rattle.ir_laws.specs.ir_model.Ty.{Ty, int, ptr}
use Rattle.ir_laws.specs.ir_model.declared.instr.Case.{Case}
use Rattle.ir_laws.specs.ir_model.declared.instr.Instr.{Instr}
use Rattle.ir_laws.specs.ir_model.declared.instr.Terminator.{Terminator}
use Rattle.ir_laws.specs.ir_model.declared.module.Function.{Function}
use Rattle.ir_laws.specs.ir_model.declared.module.Module.{Module}
use Rattle.ir_laws.specs.ir_model.declared.operand.Allocator.{Allocator}
use Rattle.ir_laws.specs.ir_model.declared.operand.Arg.{Arg}
use Rattle.ir_laws.specs.ir_model.declared.operand.Callee.{Callee}
use Rattle.ir_laws.specs.ir_model.declared.operand.Intrinsic.{Intrinsic}
use Rattle.ir_laws.specs.ir_model.declared.operand.Operand.{Operand}
pub use Rattle.ir_laws.specs.paths.order_meaning.Beside.{moved_slot}
use Rattle.ir_laws.specs.facts.order_rules.Renumbered.{StaysApart, renumbered_arg, renumbered_callee, renumbered_case, renumbered_instr, renumbered_operand, renumbered_term}
use Rattle.run_states.proofs.order_meaning.Moved.{AreFoundAlike, args_moved, indices_moved, operand_moved, result_moved, set_moved, target_moved, with_functions}
use Rattle.ir_laws.specs.paths.order_meaning.Beside.{AreMoved}
use Rattle.ir_laws.specs.facts.order_meaning.Beside.{IsHeld, IsHeldResult}
use Rattle.ir_laws.specs.run_step.Step.{Action, AtInstr, AtTerm, Context, Coro, Deallocate, Done, Enter, Fetched, GoTo, NewSlot, Nowhere, Return, Stuck, Work, action_of, alloca, allocated, allocator_call, branch, by_pred, call, compared, done, fits_function, has_markers, if_alignment, indirect_call, instr_action, intrinsic_call, is_alignment, named_call, observed, set_memory, set_value, switch, term_action, with_length, words_of}
use Rattle.ir_laws.specs.run_step.Values.{Env, address, arg_values, indices_of, nth, operand_value, truth_value, value_in, value_of, with_value}
use Rattle.ir_laws.specs.run_step.declared.world.World.{World}
use Rattle.ir_laws.proofs.run_laws.changed.Kept.{distance_kept}
use Rattle.ir_laws.specs.run_laws.changed.Changed.{result_at, result_of}

abbrev pub renumbered_here : (ℕ → ℕ) → Fetched → Fetched
renumbered_here to Nowhere = Nowhere
renumbered_here to (AtInstr i) = AtInstr (renumbered_instr to i)
renumbered_here to (AtTerm t) = AtTerm (renumbered_term to t)

abbrev pub work : World → Env → Work
work world values = record { world = world; values = values }

-- the same action with values and labels at other names
abbrev pub MovedAction : (ℕ → ℕ) → ℕ → ℕ → Action → Action → Type 0
MovedAction to k l (Stuck c) b = Unit {0}
MovedAction to k l (Done w) b = (us : Env) × (b ≡ Done (record { world = w.world; values = us })) × AreMoved to k l w.values us
MovedAction to k l (NewSlot w slot) b = (us : Env) × (b ≡ NewSlot (record { world = w.world; values = us }) (moved_slot to slot)) × AreMoved to k l w.values us
MovedAction to k l (Enter func args result must_tail) b = (b ≡ Enter func args (option_map to result) must_tail) × IsHeldResult to k l result
MovedAction to k l (Coro i args result) b = b ≡ Coro i (map (renumbered_arg to) args) (option_map to result)
MovedAction to k l (Deallocate p) b = b ≡ Deallocate p
MovedAction to k l (GoTo label) b = b ≡ GoTo (to label)
MovedAction to k l (Return v) b = b ≡ Return v

-- what the functions and the module say besides names of locals
pub record AreLike (m : Module) (fs : List Function) (f g : Function) (to : ℕ → ℕ) : Type 0 where
  pub alike : AreFoundAlike m fs
  pub fits : (ty : Option Ty) (args : List Arg) (func : ℕ) → fits_function ty (map (renumbered_arg to) args) (slice_get fs func) ≡ fits_function ty args (slice_get m.functions func)
  pub coroutine : g.coroutine ≡ f.coroutine
  pub markers : (name : ℕ) → has_markers g (to name) ≡ has_markers f name

module _ (m : Module) (fs : List Function) (f g : Function) (to : ℕ → ℕ) (apart : StaysApart to) (k l : ℕ) (like : AreLike m fs f g to) (answers : List ℤ) (rights : Rights) (world : World) (vs ws : Env) (s : AreMoved to k l vs ws) where
  abbrev n : Module
  n = with_functions m fs

  abbrev c : Context
  c = record { code = m; answers = answers; rights = rights; function = f }

  abbrev d : Context
  d = record { code = n; answers = answers; rights = rights; function = g }

  value_same : (ty : Ty) (x : Operand) → operand_value n ws ty (renumbered_operand to x) ≡ operand_value m vs ty x
  value_same ty x = operand_moved m fs like.alike to vs ws s.each ty x

  values_same : (args : List Arg) → arg_values n ws (map (renumbered_arg to) args) ≡ arg_values m vs args
  values_same args = args_moved m fs like.alike to vs ws s.each args

  set : (r : ℕ) (x : Value) → IsHeld to k l r → AreMoved to k l (with_value vs r x) (with_value ws (to r) x)
  set r x h = set_moved to apart k l vs ws r x s h

  done_set : {A : Type 0} (name : ℕ) (put : A → Value) (r : Result A Cause) → IsHeld to k l name → MovedAction to k l (done (λ a. set_value (work world vs) name (put a)) r) (done (λ a. set_value (work world ws) (to name) (put a)) r)
  done_set name put (Err cause) h = tt
  done_set name put (Ok a) h = (with_value ws (to name) (put a), refl, set name (put a) h)

  done_memory : (r : Result (List MemoryBlock) Cause) → MovedAction to k l (done (set_memory (work world vs)) r) (done (set_memory (work world ws)) r)
  done_memory (Err cause) = tt
  done_memory (Ok a) = (ws, refl, s)

  compared_moved : (name : ℕ) (pred : Pred) (ty : Ty) (a b : Value) → IsHeld to k l name → MovedAction to k l (compared c (work world vs) name pred ty a b) (compared d (work world ws) (to name) pred ty a b)
  compared_moved name pred (int w) a b h = (_, refl, set name _ h)
  compared_moved name pred ty a b h = done_set name (λ same. truth_value (by_pred pred same)) (compare rights world.memory (address a) (address b)) h

  -- ---- calls
  observed_moved : (x : ℕ) (ty : Option Ty) (result : Option ℕ) (args : Option (List Word)) → IsHeldResult to k l result → MovedAction to k l (observed c (work world vs) x ty result args) (observed d (work world ws) x ty (option_map to result) args)
  observed_moved x ty result None h = tt
  observed_moved x None result (Some args) h = (_, refl, result_moved to apart k l vs ws result _ s h)
  observed_moved x (Some ty) result (Some args) h = (_, refl, result_moved to apart k l vs ws result _ s h)

  named_moved : (x y : Option ℕ) (ty : Option Ty) (result : Option ℕ) (must_tail : Bool) (us : List Value) → IsHeldResult to k l result → MovedAction to k l (named_call c (work world vs) x y ty result must_tail us) (named_call d (work world ws) x y ty (option_map to result) must_tail us)
  named_moved (Some x) y ty result must_tail us h = (refl, h)
  named_moved None (Some y) ty result must_tail us h = observed_moved y ty result (words_of us) h
  named_moved None None ty result must_tail us h = tt

  allocated_moved : (result : Option ℕ) (v : Value) → IsHeldResult to k l result → MovedAction to k l (with_length v (λ n. Done (allocated (work world vs) result n))) (with_length v (λ n. Done (allocated (work world ws) (option_map to result) n)))
  allocated_moved result (Value.Int n) h = (_, refl, result_moved to apart k l vs ws result _ s h)
  allocated_moved result Value.Poison h = tt
  allocated_moved result (Value.Ptr p) h = tt

  allocator_moved : (a : Allocator) (result : Option ℕ) (us : List Value) → IsHeldResult to k l result → MovedAction to k l (allocator_call a (work world vs) result us) (allocator_call a (work world ws) (option_map to result) us)
  allocator_moved Allocator.Malloc result us h = allocated_moved result (nth us 0) h
  allocator_moved Allocator.Znwm result us h = allocated_moved result (nth us 0) h
  allocator_moved Allocator.Free result us h = refl
  allocator_moved Allocator.ZdlPv result us h = refl
  allocator_moved Allocator.ZdlPvm result us h = refl

  copied_moved : (us : List Value) (x : Value) → MovedAction to k l (with_length x (λ n. done (set_memory (work world vs)) (copy rights world.memory (address (nth us 0)) (address (nth us 1)) n))) (with_length x (λ n. done (set_memory (work world ws)) (copy rights world.memory (address (nth us 0)) (address (nth us 1)) n)))
  copied_moved us (Value.Int n) = done_memory _
  copied_moved us Value.Poison = tt
  copied_moved us (Value.Ptr p) = tt

  intrinsic_moved : (i : Intrinsic) (result : Option ℕ) (args : List Arg) (us : List Value) → MovedAction to k l (intrinsic_call c (work world vs) i result args us) (intrinsic_call d (work world ws) i (option_map to result) (map (renumbered_arg to) args) us)
  intrinsic_moved Intrinsic.LifetimeStart result args us = (ws, refl, s)
  intrinsic_moved Intrinsic.LifetimeEnd result args us = (ws, refl, s)
  intrinsic_moved Intrinsic.MemcpyI64 result args us = copied_moved us (nth us 2)
  intrinsic_moved Intrinsic.MemcpyI32 result args us = copied_moved us (nth us 2)
  intrinsic_moved _ result args us = refl

  indirect_moved : (v : Value) (ty : Option Ty) (result : Option ℕ) (must_tail : Bool) (args : List Arg) (us : List Value) → IsHeldResult to k l result → MovedAction to k l (indirect_call c v ty result must_tail args us) (indirect_call d v ty (option_map to result) must_tail (map (renumbered_arg to) args) us)
  indirect_moved (Value.Ptr (Pointer.Func x)) ty result must_tail args us h = rw (like.fits ty args x) (on (fits_function ty args (slice_get m.functions x)))
    where
      on : (b : Bool) → MovedAction to k l (if b then Enter x us result must_tail else Stuck Cause.Call) (if b then Enter x us (option_map to result) must_tail else Stuck Cause.Call)
      on true = (refl, h)
      on false = tt
  indirect_moved _ ty result must_tail args us h = tt

  call_moved : (result : Option ℕ) (must_tail : Bool) (ty : Option Ty) (callee : Callee) (args : List Arg) → IsHeldResult to k l result → MovedAction to k l (call c (work world vs) result must_tail ty callee args (arg_values m vs args)) (call d (work world ws) (option_map to result) must_tail ty (renumbered_callee to callee) (map (renumbered_arg to) args) (arg_values n ws (map (renumbered_arg to) args)))
  call_moved result must_tail ty (Callee.Named x) args h =
      rw (values_same args, like.alike.named x) (named_moved (function_named m x) (declaration_named m x) ty result must_tail (arg_values m vs args) h)
  call_moved result must_tail ty (Callee.Allocator a) args h = rw (values_same args) (allocator_moved a result (arg_values m vs args) h)
  call_moved result must_tail ty (Callee.Intrinsic i) args h = rw (values_same args) (intrinsic_moved i result args (arg_values m vs args))
  call_moved result must_tail ty (Callee.Local v) args h =
      rw (values_same args, s.each v) (indirect_moved (value_in vs v) ty result must_tail args (arg_values m vs args) h)

  -- ---- instructions
  aligned_moved : (align : ℕ) (a b : Action) → MovedAction to k l a b → MovedAction to k l (if_alignment align a) (if_alignment align b)
  aligned_moved align a b h = on (is_alignment align)
    where
      on : (t : Bool) → MovedAction to k l (if t then a else Stuck Cause.Align) (if t then b else Stuck Cause.Align)
      on true = h
      on false = tt

  alloca_moved : (name size align : ℕ) → IsHeld to k l name → MovedAction to k l (alloca c (work world vs) name size align) (alloca d (work world ws) (to name) size align)
  alloca_moved name size align h = rw (like.coroutine, like.markers name) (_, refl, set name _ h)

  instr_moved : (i : Instr) → IsHeldResult to k l (result_of i) → MovedAction to k l (instr_action c (work world vs) i) (instr_action d (work world ws) (renumbered_instr to i))
  instr_moved (Instr.Binary name op flags ty a b) h = rw (value_same ty a, value_same ty b) (done_set name (λ n. value_of n) _ h)
  instr_moved (Instr.Icmp name pred ty a b) h = rw (value_same ty a, value_same ty b) (compared_moved name pred ty _ _ h)
  instr_moved (Instr.Select name y a b) h = rw (value_same (int 1) y, value_same a.ty a.value, value_same b.ty b.value) (_, refl, set name _ h)
  instr_moved (Instr.Cast name op nneg arg ty) h = rw (value_same arg.ty arg.value) (_, refl, set name _ h)
  instr_moved (Instr.Alloca name ty align) h = aligned_moved align _ _ (alloca_moved name (size_of m ty) align h)
  instr_moved (Instr.Load name ty p align) h = rw (value_same ptr p) (aligned_moved align _ _ (done_set name (λ v. v) _ h))
  instr_moved (Instr.Store arg p align) h = rw (value_same ptr p, value_same arg.ty arg.value) (aligned_moved align _ _ (done_memory _))
  instr_moved (Instr.Gep name inbounds ty base indices) h =
      rw (value_same ptr base, indices_moved m fs like.alike to vs ws s.each indices, distance_kept m n refl ty (indices_of m vs indices)) (_, refl, set name _ h)
  instr_moved (Instr.Call result must_tail ty callee args) h = call_moved result must_tail ty callee args h

  -- ---- terminators
  branch_moved : (v : Value) (a b : ℕ) → MovedAction to k l (branch v a b) (branch v (to a) (to b))
  branch_moved (Value.Int x) a b = on (x.bits == 1)
    where
      on : (t : Bool) → GoTo (if t then to a else to b) ≡ GoTo (to (if t then a else b))
      on true = refl
      on false = refl
  branch_moved Value.Poison a b = tt
  branch_moved (Value.Ptr p) a b = tt

  switch_moved : (v : Value) (default : ℕ) (cases : List Case) → MovedAction to k l (switch m v default cases) (switch n v (to default) (map (renumbered_case to) cases))
  switch_moved (Value.Int x) default cases = ap GoTo (target_moved m fs like.alike to x default cases)
  switch_moved Value.Poison default cases = tt
  switch_moved (Value.Ptr p) default cases = tt

  term_moved : (t : Terminator) → MovedAction to k l (term_action c (work world vs) t) (term_action d (work world ws) (renumbered_term to t))
  term_moved (Terminator.Jump label) = refl
  term_moved (Terminator.Branch y a b) = rw (value_same (int 1) y) (branch_moved (operand_value m vs (int 1) y) a b)
  term_moved (Terminator.Switch arg default cases) = rw (value_same arg.ty arg.value) (switch_moved (operand_value m vs arg.ty arg.value) default cases)
  term_moved (Terminator.Ret None) = refl
  term_moved (Terminator.Ret (Some arg)) = ap (λ (v : Value). Return (Some v)) (value_same arg.ty arg.value)
  term_moved Terminator.Unreachable = tt

  pub action_moved : (here : Fetched) → IsHeldResult to k l (result_at here) → MovedAction to k l (action_of c (work world vs) here) (action_of d (work world ws) (renumbered_here to here))
  action_moved Nowhere h = tt
  action_moved (AtInstr i) h = instr_moved i h
  action_moved (AtTerm t) h = term_moved t
