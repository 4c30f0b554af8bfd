-- Each step of a framed run keeps frames in blocks of allocators.
use Rattle.std.proofs.Common.{◌≡◌, ℕ, ◌+◌, Bool, true, false, List, [], ◌∷◌, Option, Some, None, Result, Ok, Err, refl, sym, subst, if◌then◌else◌, ◌&&◌, ◌==◌}
use Rattle.std.specs.Prelude.{negsuc, slice_get, unwrap_or}
use Rattle.std.proofs.lemmas.Bool.{and_parts, false≢true}
use Rattle.pass_proofs.specs.ir_base.declared.cause.Cause.{Cause}
use Rattle.pass_proofs.specs.ir_base.declared.outcome.Outcome.{Outcome}
use Rattle.pass_proofs.specs.ir_model.Names.{function_at}
use Rattle.pass_proofs.specs.ir_model.Ty.{Ty}
use Rattle.pass_proofs.specs.ir_model.declared.instr.Instr.{Instr}
use Rattle.pass_proofs.specs.ir_model.declared.operand.Arg.{Arg}
use Rattle.pass_proofs.specs.ir_model.declared.operand.Callee.{Callee}
use Rattle.pass_proofs.specs.ir_model.declared.operand.Intrinsic.{Intrinsic}
use Rattle.pass_proofs.specs.ir_model.declared.operand.Operand.{Operand}
use Rattle.pass_proofs.specs.ir_paths.Windows.{destroy_label, operand_at, resume_label, suspend_of}
use Rattle.pass_proofs.specs.ir_paths.declared.point.Point.{Point}
use Rattle.pass_split_proof.proofs.held.Acts.{ActsKept, acts}
use Rattle.pass_split_proof.proofs.held.Begins.{begins_kept}
use Rattle.pass_split_proof.proofs.held.Freed.{frees_kept}
use Rattle.pass_split_proof.proofs.held.Memory.{Keeps, keeps_dead, keeps_no_heap}
use Rattle.pass_split_proof.proofs.held.Moves.{StaysKept, edge_kept, entered, goes_on_kept, if_kept, on_memory, own_changed, pushed, return_kept, save_kept, then_kept}
use Rattle.pass_split_proof.proofs.steps.Branches.{own_there}
use Rattle.pass_split_proof.proofs.steps.Woken.{destroy_goes, resume_goes}
use Rattle.pass_split_proof.specs.held.Kept.{IsKeptState, IsNoHeap, MarksNoHeap, is_heap_in}
use Rattle.pass_proofs.specs.run_framed.Framed.{FramedGiven, alloca_from, continue_framed, disown_given, enter_given, framed_act, framed_advance, framed_context, framed_coro, framed_finish, framed_next, framed_promise, framed_slot, framed_step, given_ramp, is_stack_block, last_value}
use Rattle.pass_proofs.specs.run_laws.changed.Changed.{Each}
use Rattle.pass_proofs.specs.run_memory.Memory.{disown, disowned, same_kind}
use Rattle.pass_proofs.specs.run_memory.declared.block.Kind.{Kind}
use Rattle.pass_proofs.specs.run_memory.declared.block.MemoryBlock.{MemoryBlock}
use Rattle.pass_proofs.specs.run_memory.declared.pointer.Value.{Value}
use Rattle.pass_proofs.specs.run_source.Source.{Sleeper, after_end, called, change_own, destroy, done_at, end_of, finish, go_to, mode_of, release, resume, save, save_before, save_for, sleeper_at, slots_of, suspend}
use Rattle.pass_proofs.specs.run_source.State.{function_of, gives, next, or_undefined, own_instance, point_of, settled, with_memory, with_slots, work_of}
use Rattle.pass_proofs.specs.run_source.declared.state.Instance.{Instance}
use Rattle.pass_proofs.specs.run_source.declared.state.Mode.{Mode}
use Rattle.pass_proofs.specs.run_source.declared.state.State.{State}
use Rattle.pass_proofs.specs.run_source.declared.state.Status.{Status}
use Rattle.pass_proofs.specs.run_source_tables.Given.{has_final, is_final}
use Rattle.pass_proofs.specs.run_step.Results.{and_then, found, ok_if}
use Rattle.pass_proofs.specs.run_step.Step.{Action, AtInstr, AtTerm, Coro, Deallocate, Done, Enter, Fetched, GoTo, NewSlot, Nowhere, Return, Stuck, Work, action_of, fetch, without_slots}
use Rattle.pass_proofs.specs.run_step.Values.{arg_values, integer, nth, truth_value}
use Rattle.pass_proofs.specs.run_step.declared.world.Slot.{Slot}
use Rattle.std.specs.Option.{option_map_or}

-- ---- what only gives values

given : (s : State) (result : Option ℕ) (v : Value) → IsKeptState s → IsKeptState (gives s result v)
given s result v k = record { instances = k.instances; top = k.top; below = k.below }

given_or : {A : Type 0} (s : State) (r : Result A Cause) (f : A → State) → ((a : A) → IsKeptState (f a))
    → StaysKept (and_then r (λ (a : A). Ok (f a)))
given_or s (Err cause) f h = tt
given_or s (Ok a) f h = h a

-- ---- the end

disowned_kept : (s : State) (b : ℕ) → is_stack_block s.world.memory b ≡ true → IsKeptState s
    → IsKeptState (with_memory s (disown s.world.memory b))
disowned_kept s b stack k = on_memory s (with_memory s (disown s.world.memory b)) k
    (keeps_no_heap s.world.memory b disowned (on (slice_get s.world.memory b) stack) (λ u. refl)) refl refl refl
  where
    kinds : (d : Kind) → same_kind d Kind.Stack ≡ true → same_kind d Kind.Allocator ≡ false
    kinds Kind.Allocator h = absurd (false≢true h)
    kinds Kind.Stack h = refl
    kinds Kind.Slot h = refl
    kinds Kind.Global h = refl
    kinds Kind.Constant h = refl

    on : (o : Option MemoryBlock) → option_map_or (λ (x : MemoryBlock). same_kind x.kind Kind.Stack) o false ≡ true
        → is_heap_in o ≡ false
    on None h = refl
    on (Some u) h = kinds u.kind h

given_disowned : (s : State) (o : Option (ℕ × Instance)) → IsKeptState s → IsKeptState (disown_given s o)
given_disowned s None k = k
given_disowned s (Some (i, x)) k = on (is_stack_block s.world.memory x.block && (x.start == 0)) refl
  where
    on : (t : Bool) → (is_stack_block s.world.memory x.block && (x.start == 0)) ≡ t
        → IsKeptState (if t then with_memory s (disown s.world.memory x.block) else s)
    on true e = disowned_kept s x.block (and_parts (is_stack_block s.world.memory x.block) (x.start == 0) e).0 k
    on false e = k

own_slots : (s : State) (o : Option (ℕ × Instance)) → own_instance s ≡ o → IsKeptState s
    → Each (λ (slot : Slot). IsNoHeap s.world.memory slot.block) (slots_of o)
own_slots s None e k = tt
own_slots s (Some (i, x)) e k = k.instances.slots i x (own_there s i x e)

finish_kept : (s : State) → IsKeptState s → IsKeptState (framed_finish s)
finish_kept s k = given_disowned (finish s) (own_instance s)
    (on_memory (change_own s (λ x. record x { status = Status.Finished }) (own_instance s)) (finish s)
    (own_changed s (λ x. record x { status = Status.Finished }) (λ x. (refl, refl, refl, refl))
    (λ i x e h. absurd (false≢true h)) k)
    (keeps_from (own_instance s) refl) refl refl refl)
  where
    keeps_from : (o : Option (ℕ × Instance)) → own_instance s ≡ o
        → Keeps (change_own s (λ x. record x { status = Status.Finished }) o).world.memory
        (without_slots s.world.memory (slots_of o))
    keeps_from None e = keeps_dead s.world.memory [] tt
    keeps_from (Some (i, x)) e = keeps_dead s.world.memory x.slots (own_slots s (Some (i, x)) e k)

after_kept : (s : State) (result : Option ℕ) (mode : Mode) → IsKeptState s → StaysKept (after_end s result mode)
after_kept s result Mode.Resumed k = return_kept s None k
after_kept s result _ k = given s result (truth_value false) k

end_kept : (s : State) (result : Option ℕ) → IsKeptState s → StaysKept (end_of s framed_finish result)
end_kept s result k = after_kept (if s.top.has_left then s else framed_finish s) result s.top.mode (on s.top.has_left)
  where
    on : (left : Bool) → IsKeptState (if left then s else framed_finish s)
    on true = k
    on false = finish_kept s k

-- ---- the coro intrinsics

save_before_kept : (s : State) (x : Operand) → IsKeptState s → StaysKept (save_before s x)
save_before_kept s Operand.None k = save_kept s (point_of s) (point_of s) k
save_before_kept s _ k = k

ok_kept : (r : Result State Cause) (u : State) → StaysKept r → r ≡ Ok u → IsKeptState u
ok_kept r u k e = subst StaysKept e k

module _ (g : FramedGiven) (s : State) (k : IsKeptState s) where
  resumes_kept : (p : Value) (r : Result State Cause) → resume g.given (continue_framed g) s p ≡ r → StaysKept r
  resumes_kept p (Err cause) e = tt
  resumes_kept p (Ok u) e = let y = resume_goes g s u p e in subst IsKeptState (sym y.1.1)
      (goes_on_kept g s y.0.number y.0.instance y.0.suspend y.0.values
      (resume_label (function_at g.given.code y.0.instance.coroutine) y.0.suspend) k y.0.there)

  destroys_kept : (p : Value) (r : Result State Cause) → destroy g.given (continue_framed g) s p ≡ r → StaysKept r
  destroys_kept p (Err cause) e = tt
  destroys_kept p (Ok u) e = let y = destroy_goes g s u p e in subst IsKeptState (sym y.1)
      (goes_on_kept g s y.0.number y.0.instance y.0.suspend y.0.values
      (destroy_label (function_at g.given.code y.0.instance.coroutine) y.0.suspend) k y.0.there)

  saves_kept : StaysKept (save g.given s)
  saves_kept = then_kept (found Cause.State (suspend_of (function_of g.given s) (point_of s)))
      (λ (suspend : Point). and_then (save_for s (point_of s) suspend) (λ (u : State). Ok (next u)))
      (λ suspend e. then_kept (save_for s (point_of s) suspend) (λ (u : State). Ok (next u)) (λ u f.
      let y = ok_kept (save_for s (point_of s) suspend) u (save_kept s (point_of s) suspend k) f in
      record { instances = y.instances; top = y.top; below = y.below }))

  suspends_kept : (result : Option ℕ) (x : Operand) → StaysKept (suspend s result x)
  suspends_kept result x = then_kept (save_before s x) (λ (u : State). Ok (gives u result (integer 8 (negsuc 0))))
      (λ u f. given u result (integer 8 (negsuc 0)) (ok_kept (save_before s x) u (save_before_kept s x k) f))

  done_kept : (result : Option ℕ) (p : Value) → StaysKept (done_at g.given s result p)
  done_kept result p = then_kept (sleeper_at s p) (λ (y : Sleeper). ok_if (has_final (function_at g.given.code
      y.instance.coroutine)) Cause.State (gives s result (truth_value (is_final (function_at g.given.code
      y.instance.coroutine) y.suspend))))
      (λ y e. if_kept (has_final (function_at g.given.code y.instance.coroutine)) Cause.State _
      (λ h. given s result _ k))

  release_kept : (result : Option ℕ) (v : Value) → IsKeptState (gives (release s) result v)
  release_kept result v = given (release s) result v
      (own_changed s (λ x. record x { released = true }) (λ x. (refl, refl, refl, refl))
      (λ i x e h. k.instances.unfreed i x e h) k)

  coro_kept : (i : Intrinsic) (args : List Arg) (vs : List Value) (result : Option ℕ)
      → StaysKept (framed_coro g s i args vs result)
  coro_kept Intrinsic.CoroId args vs result = record { instances = k.instances; top = k.top; below = k.below }
  coro_kept Intrinsic.CoroSizeI32 args vs result = given s result _ k
  coro_kept Intrinsic.CoroSizeI64 args vs result = given s result _ k
  coro_kept Intrinsic.CoroAlignI32 args vs result = given s result _ k
  coro_kept Intrinsic.CoroAlignI64 args vs result = given s result _ k
  coro_kept Intrinsic.CoroAlloc args vs result = given s result _ k
  coro_kept Intrinsic.CoroBegin args vs result = begins_kept g s k result (nth vs 1) s.top.mode
  coro_kept Intrinsic.CoroFree args vs result = release_kept result _
  coro_kept Intrinsic.CoroFrame args vs result = given s result _ k
  coro_kept Intrinsic.CoroSave args vs result = saves_kept
  coro_kept Intrinsic.CoroSuspend args vs result = suspends_kept result (operand_at args 0)
  coro_kept Intrinsic.CoroEnd args vs result = end_kept s result k
  coro_kept Intrinsic.CoroResume args vs result = resumes_kept (nth vs 0)
      (resume g.given (continue_framed g) s (nth vs 0)) refl
  coro_kept Intrinsic.CoroDestroy args vs result = destroys_kept (nth vs 0)
      (destroy g.given (continue_framed g) s (nth vs 0)) refl
  coro_kept Intrinsic.CoroDone args vs result = done_kept result (nth vs 0)
  coro_kept Intrinsic.CoroPromise args vs result =
      given_or s (framed_promise g s (nth vs 0) (operand_at args 2)) (λ v. gives s result v) (λ v. given s result v k)
  coro_kept _ args vs result = record { instances = k.instances; top = k.top; below = k.below }

  -- ---- all actions

  slot_kept : (w : Work) (slot : Slot) → Keeps s.world.memory w.world.memory → IsNoHeap w.world.memory slot.block
      → IsKeptState (with_slots (settled s w) (slot ∷ s.top.slots))
  slot_kept w slot keeps none =
      let y = on_memory s (settled s w) k keeps refl refl refl in
      record { instances = y.instances; top = (none, y.top); below = y.below }

  slots_kept : (w : Work) (slot : Slot) (mode : Mode) → Keeps s.world.memory w.world.memory
      → IsNoHeap w.world.memory slot.block → IsKeptState (framed_slot g (settled s w) slot mode)
  slots_kept w slot (Mode.Entering from label) keeps none
      = entered g (with_slots (settled s w) (slot ∷ s.top.slots)) from label
      (alloca_from (function_of g.given s) (s.top.at + 1)) (slot_kept w slot keeps none)
  slots_kept w slot _ keeps none = slot_kept w slot keeps none

  edges_kept : (label : ℕ) (r : Result State Cause) → go_to g.given s label ≡ r → StaysKept r
  edges_kept label (Err cause) e = tt
  edges_kept label (Ok u) e = edge_kept g.given s u label k e

  act_kept : (a : Action) → ActsKept s.world.memory a → StaysKept (framed_act g s a)
  act_kept (Done w) h = on_memory s (settled s w) k h refl refl refl
  act_kept (NewSlot w slot) h = slots_kept w slot s.top.mode h.0 h.1
  act_kept (Enter func args result must_tail) h = pushed s (called g.given.code func args result
      (mode_of (function_at g.given.code func))) k refl
  act_kept (Coro i args result) h = coro_kept i args (arg_values g.given.code s.top.values args) result
  act_kept (Deallocate p) h = frees_kept s k p
  act_kept (GoTo label) h = edges_kept label (go_to g.given s label) refl
  act_kept (Return v) h = return_kept s v k
  act_kept (Stuck cause) h = tt

  entering_kept : (result : Option ℕ) (vs : List Value) (o : Option ℕ) (r : Result State Cause) → StaysKept r
      → StaysKept (unwrap_or (enter_given g s result vs o) r)
  entering_kept result vs None r h = h
  entering_kept result vs (Some func) r h = pushed s (called g.given.code func vs result
      (Mode.GivenRamp (last_value vs))) k refl

  -- what a call that gives a frame does, or another instruction
  other_kept : (here : Fetched) → MarksNoHeap g s here
      → StaysKept (framed_act g s (action_of (framed_context g s) (work_of s) here))
  other_kept here h = act_kept (action_of (framed_context g s) (work_of s) here) (acts g s here h)

  call_kept : (result : Option ℕ) (must_tail : Bool) (ty : Option Ty) (callee : Callee) (args : List Arg)
      → MarksNoHeap g s (AtInstr (Instr.Call result must_tail ty callee args))
      → StaysKept (framed_next g s (AtInstr (Instr.Call result must_tail ty callee args)))
  call_kept result must_tail ty (Callee.Named n) args h = entering_kept result
      (arg_values g.given.code s.top.values args) (given_ramp g.given.code n)
      (framed_act g s (action_of (framed_context g s) (work_of s)
      (AtInstr (Instr.Call result must_tail ty (Callee.Named n) args))))
      (other_kept (AtInstr (Instr.Call result must_tail ty (Callee.Named n) args)) h)
  call_kept result must_tail ty (Callee.Allocator a) args h
      = other_kept (AtInstr (Instr.Call result must_tail ty (Callee.Allocator a) args)) h
  call_kept result must_tail ty (Callee.Intrinsic i) args h
      = other_kept (AtInstr (Instr.Call result must_tail ty (Callee.Intrinsic i) args)) h
  call_kept result must_tail ty (Callee.Local name) args h
      = other_kept (AtInstr (Instr.Call result must_tail ty (Callee.Local name) args)) h

  instr_kept : (i : Instr) → MarksNoHeap g s (AtInstr i) → StaysKept (framed_next g s (AtInstr i))
  instr_kept (Instr.Binary name op flags ty a b) h = other_kept (AtInstr (Instr.Binary name op flags ty a b)) h
  instr_kept (Instr.Icmp name pred ty a b) h = other_kept (AtInstr (Instr.Icmp name pred ty a b)) h
  instr_kept (Instr.Select name x a b) h = other_kept (AtInstr (Instr.Select name x a b)) h
  instr_kept (Instr.Cast name op nneg arg to) h = other_kept (AtInstr (Instr.Cast name op nneg arg to)) h
  instr_kept (Instr.Alloca name ty align) h = other_kept (AtInstr (Instr.Alloca name ty align)) h
  instr_kept (Instr.Load name ty p align) h = other_kept (AtInstr (Instr.Load name ty p align)) h
  instr_kept (Instr.Store arg p align) h = other_kept (AtInstr (Instr.Store arg p align)) h
  instr_kept (Instr.Gep name inbounds ty base indices) h
      = other_kept (AtInstr (Instr.Gep name inbounds ty base indices)) h
  instr_kept (Instr.Call result must_tail ty callee args) h = call_kept result must_tail ty callee args h

  next_kept : (here : Fetched) → MarksNoHeap g s here → StaysKept (framed_next g s here)
  next_kept Nowhere h = other_kept Nowhere h
  next_kept (AtInstr i) h = instr_kept i h
  next_kept (AtTerm t) h = other_kept (AtTerm t) h

  or_kept : (r : Result State Cause) → StaysKept r → IsKeptState (or_undefined g.given s r)
  or_kept (Err cause) h = record { instances = k.instances; top = k.top; below = k.below }
  or_kept (Ok u) h = h

  pub step_kept : MarksNoHeap g s (fetch (function_of g.given s) s.top.block s.top.at) → IsKeptState (framed_step g s)
  step_kept h = on s.outcome
    where
      on : (o : Outcome) → IsKeptState (framed_advance g s o)
      on Outcome.Running = or_kept (framed_next g s (fetch (function_of g.given s) s.top.block s.top.at))
          (next_kept (fetch (function_of g.given s) s.top.block s.top.at) h)
      on (Outcome.Returned v) = k
      on (Outcome.Undefined cause place) = k
