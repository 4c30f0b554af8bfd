-- Ends, frees, deallocations and promises, where functions have blocks on some of their edges.
use Rattle.std.proofs.Common.{◌≡◌, ℕ, Bool, true, false, List, length, refl, sym, ap, ◌∙◌, subst}
use Rattle.std.specs.Prelude.{ℤ, Some, None, Ok, Err, Option, Result, not, if◌then◌else◌, ◌&&◌, ◌==◌}
use Rattle.ir_laws.specs.run_memory.Memory.{disown}
use Rattle.ir_laws.specs.run_memory.declared.block.MemoryBlock.{MemoryBlock}
use Rattle.ir_laws.specs.run_memory.declared.pointer.Pointer.{Pointer}
use Rattle.ir_laws.specs.run_memory.declared.pointer.Value.{Value}
use Rattle.ir_laws.specs.ir_base.declared.cause.Cause.{Cause}
use Rattle.ir_laws.specs.run_source.Source.{after_end, change_own, deallocate, end_of, if_let_go, let_go, may_be_freed, release, slots_of}
use Rattle.ir_laws.specs.run_source.State.{frame_address_of, gives, instance_at, last_where, next, own_instance, with_instance, with_memory}
use Rattle.ir_laws.specs.run_source.declared.state.Activation.{Activation}
use Rattle.ir_laws.specs.run_source.declared.state.Instance.{Instance}
use Rattle.ir_laws.specs.run_source.declared.state.Mode.{Mode}
use Rattle.ir_laws.specs.run_source.declared.state.State.{State}
use Rattle.ir_laws.specs.run_source.declared.state.Status.{Status}
use Rattle.ir_laws.specs.facts.expanded.Tokens.{IsNamedResult}
use Rattle.frame_layout.specs.declared.layout.Layout.{Layout}
use Rattle.run_states.specs.branches.MovedState.{IsNamedBelow}
use Rattle.run_framed.specs.Framed.{FramedGiven, address_behind, disown_given, framed_finish, framed_frame_of_promise, framed_given, framed_promise, framed_promise_of_frame, freed_address, is_over, is_promise_at, is_stack_block, promise_offset}
use Rattle.ir_laws.specs.ir_model.Names.{function_at}
use Rattle.ir_laws.specs.ir_model.declared.module.Module.{Module}
use Rattle.ir_laws.specs.ir_model.declared.operand.Operand.{Operand}
use Rattle.ir_laws.specs.run_step.Results.{and_then, found, ok_if}
use Rattle.ir_laws.specs.run_step.Step.{deallocated, without_slots}
use Rattle.ir_laws.specs.run_step.Values.{truth_value}
use Rattle.ir_laws.specs.run_source_tables.Given.{is_true}
use Rattle.run_states.proofs.moved_states.Calls.{return_moved}
use Rattle.run_states.proofs.moved_states.Sleeping.{gives_moved}
use Rattle.run_states.proofs.moved_states.States.{found_moved, last_found, over_moved, own_moved, suspended_moved, with_instance_moved, with_number}
use Rattle.run_states.specs.moved_states.MovedState.{moved_instance, moved_mode, moved_module, moved_result, moved_state}
use Rattle.run_states.specs.moved_states.Moving.{Moving}

module _ (mv : Moving) (m : Module) where
  -- ---- the end

  after_moved : (s : State) → IsNamedBelow s.top.result s.below → (result : Option ℕ) → IsNamedResult (length s.top.values) result → (mode : Mode) → after_end (moved_state mv m s) result (moved_mode mv (function_at m s.top.func) mode) ≡ moved_result mv m (after_end s result mode)
  after_moved s below result named Mode.Resumed = return_moved mv m s None below
  after_moved s below result named Mode.Plain = ap Ok (gives_moved mv m s result (truth_value false) named)
  after_moved s below result named Mode.Ramp = ap Ok (gives_moved mv m s result (truth_value false) named)
  after_moved s below result named (Mode.GivenRamp v) = ap Ok (gives_moved mv m s result (truth_value false) named)
  after_moved s below result named (Mode.Entering from label) = ap Ok (gives_moved mv m s result (truth_value false) named)

  abbrev is_done : Instance → Instance
  is_done x = record x { status = Status.Finished }

  abbrev is_released : Instance → Instance
  is_released x = record x { released = true }

  abbrev ended : State → Option (ℕ × Instance) → State
  ended s o = with_memory (change_own s is_done o) (without_slots s.world.memory (slots_of o))

  finish_by : (s : State) (o : Option (ℕ × Instance)) → disown_given (ended (moved_state mv m s) (with_number mv m o)) (with_number mv m o) ≡ moved_state mv m (disown_given (ended s o) o)
  finish_by s None = refl
  finish_by s (Some (i, x)) =
      ap (λ (t : State). disown_given (with_memory t (without_slots s.world.memory x.slots)) (Some (i, moved_instance mv m x))) (with_instance_moved mv m s i (is_done x))
      ∙ on (is_stack_block (without_slots s.world.memory x.slots) x.block && (x.start == 0))
    where
      t : State
      t = with_memory (with_instance s i (is_done x)) (without_slots s.world.memory x.slots)

      on : (b : Bool) → (if b then with_memory (moved_state mv m t) (disown (without_slots s.world.memory x.slots) x.block) else moved_state mv m t) ≡ moved_state mv m (if b then with_memory t (disown (without_slots s.world.memory x.slots) x.block) else t)
      on true = refl
      on false = refl

  finish_moved : (s : State) → framed_finish (moved_state mv m s) ≡ moved_state mv m (framed_finish s)
  finish_moved s = ap (λ (o : Option (ℕ × Instance)). disown_given (ended (moved_state mv m s) o) o) (own_moved mv m s) ∙ finish_by s (own_instance s)

  -- the activations stay
  pub top_stays : (s : State) → (framed_finish s).top ≡ s.top
  top_stays s = on (own_instance s)
    where
      on : (o : Option (ℕ × Instance)) → (disown_given (ended s o) o).top ≡ s.top
      on None = refl
      on (Some (i, x)) = by (is_stack_block (without_slots s.world.memory x.slots) x.block && (x.start == 0))
        where
          t : State
          t = with_memory (with_instance s i (is_done x)) (without_slots s.world.memory x.slots)

          by : (b : Bool) → (if b then with_memory t (disown (without_slots s.world.memory x.slots) x.block) else t).top ≡ s.top
          by true = refl
          by false = refl

  pub below_stays : (s : State) → (framed_finish s).below ≡ s.below
  below_stays s = on (own_instance s)
    where
      on : (o : Option (ℕ × Instance)) → (disown_given (ended s o) o).below ≡ s.below
      on None = refl
      on (Some (i, x)) = by (is_stack_block (without_slots s.world.memory x.slots) x.block && (x.start == 0))
        where
          t : State
          t = with_memory (with_instance s i (is_done x)) (without_slots s.world.memory x.slots)

          by : (b : Bool) → (if b then with_memory t (disown (without_slots s.world.memory x.slots) x.block) else t).below ≡ s.below
          by true = refl
          by false = refl

  pub end_moved : (s : State) → IsNamedBelow s.top.result s.below → (result : Option ℕ) → IsNamedResult (length s.top.values) result → end_of (moved_state mv m s) framed_finish result ≡ moved_result mv m (end_of s framed_finish result)
  end_moved s below result named = on s.top.has_left
    where
      below_then : IsNamedBelow (framed_finish s).top.result (framed_finish s).below
      below_then = subst (λ (a : Activation). IsNamedBelow a.result (framed_finish s).below) (sym (top_stays s)) (subst (IsNamedBelow s.top.result) (sym (below_stays s)) below)

      named_then : IsNamedResult (length (framed_finish s).top.values) result
      named_then = subst (λ (a : Activation). IsNamedResult (length a.values) result) (sym (top_stays s)) named

      on : (b : Bool) → after_end (if b then moved_state mv m s else framed_finish (moved_state mv m s)) result (moved_mode mv (function_at m s.top.func) s.top.mode) ≡ moved_result mv m (after_end (if b then s else framed_finish s) result s.top.mode)
      on true = after_moved s below result named s.top.mode
      on false =
          ap (λ (t : State). after_end t result (moved_mode mv (function_at m s.top.func) s.top.mode)) (finish_moved s)
          ∙ ap (λ (a : Activation). after_end (moved_state mv m (framed_finish s)) result (moved_mode mv (function_at m a.func) s.top.mode)) (sym (top_stays s))
          ∙ after_moved (framed_finish s) below_then result named_then s.top.mode

  -- ---- free

  freed_moved : (s : State) (result : Option ℕ) → IsNamedResult (length s.top.values) result → (o : Option (ℕ × Instance)) → gives (change_own (moved_state mv m s) is_released (with_number mv m o)) result (freed_address s.world.memory (with_number mv m o)) ≡ moved_state mv m (gives (change_own s is_released o) result (freed_address s.world.memory o))
  freed_moved s result named None = gives_moved mv m s result Value.Poison named
  freed_moved s result named (Some (i, x)) =
      ap (λ (t : State). gives t result (freed_address s.world.memory (Some (i, x)))) (with_instance_moved mv m s i (is_released x))
      ∙ gives_moved mv m (with_instance s i (is_released x)) result (freed_address s.world.memory (Some (i, x))) named

  pub free_moved : (s : State) (result : Option ℕ) → IsNamedResult (length s.top.values) result → gives (release (moved_state mv m s)) result (freed_address s.world.memory (own_instance (moved_state mv m s))) ≡ moved_state mv m (gives (release s) result (freed_address s.world.memory (own_instance s)))
  free_moved s result named =
      ap (λ (o : Option (ℕ × Instance)). gives (change_own (moved_state mv m s) is_released o) result (freed_address s.world.memory o)) (own_moved mv m s) ∙ freed_moved s result named (own_instance s)

  -- ---- deallocation

  may_be_moved : (x : Instance) → may_be_freed (moved_instance mv m x) ≡ may_be_freed x
  may_be_moved x = ap (λ (b : Bool). x.released && not b) (suspended_moved mv m (function_at m x.coroutine) x.status)

  let_go_moved : (s : State) (i : ℕ) (x : Instance) → let_go (moved_state mv m s) i (moved_instance mv m x) ≡ moved_state mv m (let_go s i x)
  let_go_moved s i x = ap (λ (t : State). with_memory t (disown (without_slots s.world.memory x.slots) x.block)) (with_instance_moved mv m s i (record x { freed = true }))

  if_let_go_moved : (s : State) (o : Option (ℕ × Instance)) → if_let_go (moved_state mv m s) (with_number mv m o) ≡ moved_state mv m (if_let_go s o)
  if_let_go_moved s None = refl
  if_let_go_moved s (Some (i, x)) =
      ap (λ (b : Bool). if b then let_go (moved_state mv m s) i (moved_instance mv m x) else moved_state mv m s) (may_be_moved x) ∙ on (may_be_freed x)
    where
      on : (b : Bool) → (if b then let_go (moved_state mv m s) i (moved_instance mv m x) else moved_state mv m s) ≡ moved_state mv m (if b then let_go s i x else s)
      on true = let_go_moved s i x
      on false = refl

  -- what a deallocation of the address in a state leaves
  abbrev freed_in : State → Value → Result State Cause
  freed_in t p = and_then (deallocated t.world.memory p) (λ (memory : List MemoryBlock). Ok (next (with_memory t memory)))

  freed_in_moved : (t : State) (p : Value) → freed_in (moved_state mv m t) p ≡ moved_result mv m (freed_in t p)
  freed_in_moved t p = on (deallocated t.world.memory p)
    where
      on : (r : Result (List MemoryBlock) Cause) → and_then r (λ (memory : List MemoryBlock). Ok (next (with_memory (moved_state mv m t) memory))) ≡ moved_result mv m (and_then r (λ (memory : List MemoryBlock). Ok (next (with_memory t memory))))
      on (Err cause) = refl
      on (Ok memory) = refl

  pub deallocate_moved : (s : State) (p : Value) → deallocate (moved_state mv m s) p ≡ moved_result mv m (deallocate s p)
  deallocate_moved s p =
      ap (λ (o : Option (ℕ × Instance)). freed_in (if_let_go (moved_state mv m s) o) p) (found_moved mv m s.instances p)
      ∙ ap (λ (t : State). freed_in t p) (if_let_go_moved s (instance_at s.instances p))
      ∙ freed_in_moved (if_let_go s (instance_at s.instances p)) p

-- ---- the promise

module _ (mv : Moving) (m : Module) (layouts : List Layout) (answers : List ℤ) where
  abbrev g : FramedGiven
  g = framed_given m layouts answers

  abbrev k : FramedGiven
  k = framed_given (moved_module mv m) layouts answers

  to_promise : (o : Option (ℕ × Instance)) → and_then (found Cause.Frame (with_number mv m o)) (λ (y : ℕ × Instance). and_then (found Cause.Promise (promise_offset k y.1)) (λ (offset : ℕ). ok_if (not (is_over y.1)) Cause.Dead (address_behind y.1 offset))) ≡ and_then (found Cause.Frame o) (λ (y : ℕ × Instance). and_then (found Cause.Promise (promise_offset g y.1)) (λ (offset : ℕ). ok_if (not (is_over y.1)) Cause.Dead (address_behind y.1 offset)))
  to_promise None = refl
  to_promise (Some (i, x)) =
      ap (λ (b : Bool). and_then (found Cause.Promise (promise_offset g x)) (λ (offset : ℕ). ok_if (not b) Cause.Dead (address_behind x offset))) (over_moved mv m x)

  to_frame : (o : Option (ℕ × Instance)) → and_then (found Cause.Promise (with_number mv m o)) (λ (y : ℕ × Instance). ok_if (not (is_over y.1)) Cause.Promise (frame_address_of y.1)) ≡ and_then (found Cause.Promise o) (λ (y : ℕ × Instance). ok_if (not (is_over y.1)) Cause.Promise (frame_address_of y.1))
  to_frame None = refl
  to_frame (Some (i, x)) = ap (λ (b : Bool). ok_if (not b) Cause.Promise (frame_address_of x)) (over_moved mv m x)

  frame_found : (s : State) (v : Value) → framed_frame_of_promise k (moved_state mv m s) v ≡ framed_frame_of_promise g s v
  frame_found s (Value.Ptr (Pointer.At b o)) =
      ap (λ (z : Option (ℕ × Instance)). and_then (found Cause.Promise z) (λ (y : ℕ × Instance). ok_if (not (is_over y.1)) Cause.Promise (frame_address_of y.1))) (last_found mv m (is_promise_at g b o.bits) (is_promise_at k b o.bits) (λ x. refl) s.instances)
      ∙ to_frame (last_where (is_promise_at g b o.bits) s.instances)
  frame_found s (Value.Ptr Pointer.Null) = refl
  frame_found s (Value.Ptr (Pointer.Func f)) = refl
  frame_found s Value.Poison = refl
  frame_found s (Value.Int x) = refl

  promise_same : (s : State) (v : Value) (from : Operand) → framed_promise k (moved_state mv m s) v from ≡ framed_promise g s v from
  promise_same s v from = on (is_true from)
    where
      on : (t : Bool) → (if t then framed_frame_of_promise k (moved_state mv m s) v else framed_promise_of_frame k (moved_state mv m s) v) ≡ (if t then framed_frame_of_promise g s v else framed_promise_of_frame g s v)
      on true = frame_found s v
      on false =
          ap (λ (o : Option (ℕ × Instance)). and_then (found Cause.Frame o) (λ (y : ℕ × Instance). and_then (found Cause.Promise (promise_offset k y.1)) (λ (offset : ℕ). ok_if (not (is_over y.1)) Cause.Dead (address_behind y.1 offset)))) (found_moved mv m s.instances v)
          ∙ to_promise (instance_at s.instances v)

  pub promise_moved : (s : State) (result : Option ℕ) → IsNamedResult (length s.top.values) result → (v : Value) (from : Operand) → and_then (framed_promise k (moved_state mv m s) v from) (λ (w : Value). Ok (gives (moved_state mv m s) result w)) ≡ moved_result mv m (and_then (framed_promise g s v from) (λ (w : Value). Ok (gives s result w)))
  promise_moved s result named v from =
      ap (λ (r : Result Value Cause). and_then r (λ (w : Value). Ok (gives (moved_state mv m s) result w))) (promise_same s v from)
      ∙ on (framed_promise g s v from)
    where
      on : (r : Result Value Cause) → and_then r (λ (w : Value). Ok (gives (moved_state mv m s) result w)) ≡ moved_result mv m (and_then r (λ (w : Value). Ok (gives s result w)))
      on (Err cause) = refl
      on (Ok w) = ap Ok (gives_moved mv m s result w named)
