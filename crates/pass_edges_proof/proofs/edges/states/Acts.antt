-- What an action does to a state, and to that of the module whose edges have blocks.
use Rattle.std.proofs.Common.{◌≡◌, ℕ, Bool, true, false, List, [], ◌∷◌, ◌++◌, refl, sym, ap, ◌∙◌}
use Rattle.std.specs.Prelude.{ℤ, Some, None, Ok, Err, Option, Result, filter, not, option_map, ◌&&◌, ◌||◌, if◌then◌else◌}
use Rattle.pass_early_proof.specs.run_memory.Memory.{disown, killed}
use Rattle.pass_early_proof.specs.run_memory.declared.block.MemoryBlock.{MemoryBlock}
use Rattle.pass_early_proof.specs.run_memory.declared.pointer.Value.{Value}
use Rattle.pass_early_proof.specs.ir_base.declared.cause.Cause.{Cause}
use Rattle.pass_early_proof.specs.run_source.Source.{deallocate, given, if_let_go, is_over, kill_late, let_go, may_be_freed, new_slot, with_new_slots}
use Rattle.pass_early_proof.specs.run_source.State.{instance_at, is_finished, is_suspended, next, own_instance, settled, with_instance, with_memory, with_slots}
use Rattle.pass_early_proof.specs.run_source.declared.state.Instance.{Instance}
use Rattle.pass_early_proof.specs.run_source.declared.state.State.{State}
use Rattle.pass_early_proof.specs.run_source.declared.state.Status.{Status}
use Rattle.ir_model.specs.Names.{function_at}
use Rattle.ir_model.specs.declared.module.Frame.{Frame}
use Rattle.ir_model.specs.declared.module.Function.{Function}
use Rattle.ir_model.specs.declared.module.Module.{Module}
use Rattle.pass_early_proof.specs.ir_paths.Facts.{facts_of}
use Rattle.pass_early_proof.specs.ir_paths.Slots.{has_name}
use Rattle.pass_early_proof.specs.ir_paths.declared.point.Facts.{Facts}
use Rattle.pass_early_proof.specs.run_step.Results.{and_then}
use Rattle.pass_early_proof.specs.run_step.Step.{Work, deallocated, without_slots}
use Rattle.pass_early_proof.specs.run_step.declared.world.Slot.{Slot}
use Rattle.pass_edges_proof.proofs.edges.states.Parts.{ramp_kept}
use Rattle.pass_edges_proof.specs.edges.states.MovedState.{Keeps, edge_function, edges_split, moved_work, moved_instance, moved_result, moved_state, moved_status}
use Rattle.pass_early_proof.proofs.run_states.saved.States.{facts_are}
use Rattle.pass_edges_proof.proofs.edges.states.States.{facts_moved, found_moved, own_moved, with_instance_moved}

module _ (m : Module) (s : State) where
  abbrev f : Function
  f = function_at m s.top.func

  -- what is done goes on to the next instruction
  pub settled_moved : (w : Work) → settled (moved_state m s) (moved_work f w) ≡ moved_state m (settled s w)
  settled_moved w = refl

-- ---- slots

pub new_slots_same : (ones others : List ℕ) (o : Option (ℕ × Instance)) (s : State) (slots : List Slot) → ((v : ℕ) → has_name ones v ≡ has_name others v) → with_new_slots ones o s slots ≡ with_new_slots others o s slots
new_slots_same ones others None s slots h = refl
new_slots_same ones others (Some (i, x)) s slots h = λ j.
    with_slots
    (with_instance s i (record x { slots = filter (λ (slot : Slot). not (h slot.alloca j)) slots ++ x.slots }))
    (filter (λ (slot : Slot). h slot.alloca j) slots ++ s.top.slots)

kill_same : (ones others : List ℕ) (o : Option (ℕ × Instance)) (s : State) (slot : Slot) → ((v : ℕ) → has_name ones v ≡ has_name others v) → kill_late ones o s slot ≡ kill_late others o s slot
kill_same ones others None s slot h = refl
kill_same ones others (Some (i, x)) s slot h = λ j. if is_over x && not (h slot.alloca j) then with_memory s (killed s.world.memory slot.block) else s

module _ (m : Module) where
  abbrev with_number : Option (ℕ × Instance) → Option (ℕ × Instance)
  with_number o = option_map (λ (y : ℕ × Instance). (y.0, moved_instance m y.1)) o

  pub slots_moved : (r : List ℕ) (o : Option (ℕ × Instance)) (s : State) (slots : List Slot) → with_new_slots r (with_number o) (moved_state m s) slots ≡ moved_state m (with_new_slots r o s slots)
  slots_moved r None s slots = refl
  slots_moved r (Some (i, x)) s slots =
      ap (λ (t : State). with_slots t (filter (λ (slot : Slot). has_name r slot.alloca) slots ++ s.top.slots))
      (with_instance_moved m s i (record x { slots = filter (λ (slot : Slot). not (has_name r slot.alloca)) slots ++ x.slots }))

  finished_moved : (f : Function) (status : Status) → is_finished (moved_status f status) ≡ is_finished status
  finished_moved f Status.Running = refl
  finished_moved f (Status.Suspended p values) = refl
  finished_moved f Status.Finished = refl

  pub over_moved : (x : Instance) → is_over (moved_instance m x) ≡ is_over x
  over_moved x = ap (λ (b : Bool). b || x.freed) (finished_moved (function_at m x.coroutine) x.status)

  kill_moved : (r : List ℕ) (o : Option (ℕ × Instance)) (s : State) (slot : Slot) → kill_late r (with_number o) (moved_state m s) slot ≡ moved_state m (kill_late r o s slot)
  kill_moved r None s slot = refl
  kill_moved r (Some (i, x)) s slot =
      ap (λ (b : Bool). if b && not (has_name r slot.alloca) then with_memory (moved_state m s) (killed s.world.memory slot.block) else moved_state m s) (over_moved x)
      ∙ on (is_over x && not (has_name r slot.alloca))
    where
      on : (b : Bool) → (if b then with_memory (moved_state m s) (killed s.world.memory slot.block) else moved_state m s) ≡ moved_state m (if b then with_memory s (killed s.world.memory slot.block) else s)
      on true = refl
      on false = refl

  -- a new slot goes to the same owner
  pub new_slot_moved : (sizes : List Frame) (answers : List ℤ) (s : State) (slot : Slot) → Keeps (function_at m s.top.func) → new_slot (given (edges_split m) sizes answers) (moved_state m s) slot ≡ moved_state m (new_slot (given m sizes answers) s slot)
  new_slot_moved sizes answers s slot keeps =
      ap (λ (x : Facts). with_new_slots x.ramp_slots (own_instance (moved_state m s)) (kill_late x.ramp_slots (own_instance (moved_state m s)) (moved_state m s) slot) (slot ∷ [])) (facts_moved m s.top.func)
      ∙ (λ j. new_slots_same after before (own_instance (moved_state m s)) (kill_same after before (own_instance (moved_state m s)) (moved_state m s) slot same j) (slot ∷ []) same j)
      ∙ ap (λ (o : Option (ℕ × Instance)). with_new_slots before o (kill_late before o (moved_state m s) slot) (slot ∷ [])) (own_moved m s)
      ∙ ap (λ (t : State). with_new_slots before (with_number (own_instance s)) t (slot ∷ [])) (kill_moved before (own_instance s) s slot)
      ∙ slots_moved before (own_instance s) (kill_late before (own_instance s) s slot) (slot ∷ [])
      ∙ ap (λ (x : Facts). moved_state m (with_new_slots x.ramp_slots (own_instance s) (kill_late x.ramp_slots (own_instance s) s slot) (slot ∷ []))) (sym (facts_are m s.top.func))
    where
      f : Function
      f = function_at m s.top.func

      before : List ℕ
      before = (facts_of f).ramp_slots

      after : List ℕ
      after = (facts_of (edge_function f)).ramp_slots

      same : (v : ℕ) → has_name after v ≡ has_name before v
      same v = ramp_kept f keeps v

  -- ---- deallocation

  suspended_moved : (f : Function) (status : Status) → is_suspended (moved_status f status) ≡ is_suspended status
  suspended_moved f Status.Running = refl
  suspended_moved f (Status.Suspended p values) = refl
  suspended_moved f Status.Finished = refl

  freed_moved : (x : Instance) → may_be_freed (moved_instance m x) ≡ may_be_freed x
  freed_moved x = ap (λ (b : Bool). x.released && not b) (suspended_moved (function_at m x.coroutine) x.status)

  let_go_moved : (s : State) (i : ℕ) (x : Instance) → let_go (moved_state m s) i (moved_instance m x) ≡ moved_state m (let_go s i x)
  let_go_moved s i x = ap (λ (t : State). with_memory t (disown (without_slots s.world.memory x.slots) x.block)) (with_instance_moved m s i (record x { freed = true }))

  if_let_go_moved : (s : State) (o : Option (ℕ × Instance)) → if_let_go (moved_state m s) (with_number o) ≡ moved_state m (if_let_go s o)
  if_let_go_moved s None = refl
  if_let_go_moved s (Some (i, x)) =
      ap (λ (b : Bool). if b then let_go (moved_state m s) i (moved_instance m x) else moved_state m s) (freed_moved x) ∙ on (may_be_freed x)
    where
      on : (b : Bool) → (if b then let_go (moved_state m s) i (moved_instance m x) else moved_state m s) ≡ moved_state m (if b then let_go s i x else s)
      on true = let_go_moved s i x
      on false = refl

  -- what a deallocation of the address in a state leaves
  abbrev freed_in : State → Value → Result State Cause
  freed_in t p = and_then (deallocated t.world.memory p) (λ (memory : List MemoryBlock). Ok (next (with_memory t memory)))

  freed_in_moved : (t : State) (p : Value) → freed_in (moved_state m t) p ≡ moved_result m (freed_in t p)
  freed_in_moved t p = on (deallocated t.world.memory p)
    where
      on : (r : Result (List MemoryBlock) Cause) → and_then r (λ (memory : List MemoryBlock). Ok (next (with_memory (moved_state m t) memory))) ≡ moved_result m (and_then r (λ (memory : List MemoryBlock). Ok (next (with_memory t memory))))
      on (Err cause) = refl
      on (Ok memory) = refl

  pub deallocate_moved : (s : State) (p : Value) → deallocate (moved_state m s) p ≡ moved_result m (deallocate s p)
  deallocate_moved s p =
      ap (λ (o : Option (ℕ × Instance)). freed_in (if_let_go (moved_state m s) o) p) (found_moved m s.instances p)
      ∙ ap (λ (t : State). freed_in t p) (if_let_go_moved s (instance_at s.instances p))
      ∙ freed_in_moved (if_let_go s (instance_at s.instances p)) p
