-- What an action does to a state, and to that of the module whose saves are written out.
use Rattle.std.proofs.Common.{◌≡◌, ℕ, ◌+◌, Bool, true, false, List, [], ◌∷◌, ◌++◌, length, refl, sym, ap, ◌∙◌, add-one, arith}
use Rattle.std.specs.Prelude.{ℤ, Some, None, Ok, Err, Option, Result, filter, not, option_map, slice_get, ◌&&◌, ◌||◌, if◌then◌else◌}
use Rattle.rule_laws.specs.run_memory.Memory.{disown, killed}
use Rattle.rule_laws.specs.run_memory.declared.block.MemoryBlock.{MemoryBlock}
use Rattle.rule_laws.specs.run_memory.declared.pointer.Value.{Value}
use Rattle.rule_laws.specs.ir_base.declared.cause.Cause.{Cause}
use Rattle.rule_laws.specs.run_source.Source.{deallocate, given, if_let_go, is_over, kill_late, let_go, may_be_freed, new_slot, with_new_slots}
use Rattle.rule_laws.specs.run_source.State.{instance_at, is_finished, is_suspended, next, own_instance, settled, with_instance, with_memory, with_slots, work_of}
use Rattle.rule_laws.specs.run_source.declared.state.Instance.{Instance}
use Rattle.rule_laws.specs.run_source.declared.state.State.{State}
use Rattle.rule_laws.specs.run_source.declared.state.Status.{Status}
use Rattle.ir_model.specs.Names.{function_at}
use Rattle.ir_model.specs.declared.module.Frame.{Frame}
use Rattle.ir_model.specs.declared.module.Function.{Function}
use Rattle.ir_model.specs.declared.module.Module.{Module}
use Rattle.rule_laws.specs.ir_paths.Facts.{facts_of}
use Rattle.rule_laws.specs.ir_paths.Slots.{has_name}
use Rattle.rule_laws.specs.ir_paths.declared.point.Facts.{Facts}
use Rattle.rule_laws.specs.run_step.Results.{and_then}
use Rattle.rule_laws.specs.run_step.Step.{Work, deallocated, without_slots}
use Rattle.rule_laws.specs.run_step.declared.world.Slot.{Slot}
use Rattle.pass_early_proof.proofs.early.saves.Instrs.{next_place}
use Rattle.pass_early_proof.proofs.early.saves.Slots.{same_ramp_slots}
use Rattle.pass_early_proof.specs.early.saves.SavesWritten.{saved_function, saves_written}
use Rattle.pass_early_proof.specs.early.saves.Spots.{front_of, number_of_block, own_saves}
use Rattle.rule_laws.specs.ir_laws.facts.expanded.Spots.{instrs_in}
use Rattle.rule_laws.specs.ir_laws.paths.expanded.Tokens.{HasNamedTokens}
use Rattle.run_states.proofs.saved.States.{facts_are}
use Rattle.pass_early_proof.proofs.early.save_states.States.{facts_saved, found_saved, own_saved, with_instance_saved}
use Rattle.pass_early_proof.specs.early.save_states.SavedState.{StandsAlone, saved_activation, saved_instance, saved_result, saved_state, saved_status, saved_work}

-- the place behind what stands alone
pub front_next : (f : Function) (block at : ℕ) → own_saves f.coroutine (slice_get (instrs_in (slice_get f.blocks block)) at) ≡ 0 → (front_of f (record { block = block; at = at })).at + 1 ≡ (front_of f (record { block = block; at = at + 1 })).at
front_next f block at lone =
    let next = next_place f.coroutine at (number_of_block f.coroutine block (length f.names) f.blocks) (instrs_in (slice_get f.blocks block)) in
    let here = ap (λ (k : ℕ). (front_of f (record { block = block; at = k })).at) (add-one at) in
    omega (arith, next, here, lone)

module _ (m : Module) (s : State) (lone : StandsAlone m s) where
  abbrev f : Function
  f = function_at m s.top.func

  -- what is done goes on to the next instruction
  pub settled_saved : (w : Work) → settled (saved_state m s) (saved_work f w) ≡ saved_state m (settled s w)
  settled_saved w =
      ap (λ (k : ℕ). record (saved_state m s) { world = w.world; top = record (saved_activation m s.top) { at = k; values = (saved_work f w).values } })
      (front_next f s.top.block s.top.at lone)

-- ---- slots

pub new_slots_same : (names others : List ℕ) (o : Option (ℕ × Instance)) (s : State) (slots : List Slot) → ((v : ℕ) → has_name names v ≡ has_name others v) → with_new_slots names o s slots ≡ with_new_slots others o s slots
new_slots_same names others None s slots h = refl
new_slots_same names others (Some (i, x)) s slots h = λ j.
    with_slots
    (with_instance s i (record x { slots = filter (λ (slot : Slot). not (h slot.alloca j)) slots ++ x.slots }))
    (filter (λ (slot : Slot). h slot.alloca j) slots ++ s.top.slots)

kill_same : (names others : List ℕ) (o : Option (ℕ × Instance)) (s : State) (slot : Slot) → ((v : ℕ) → has_name names v ≡ has_name others v) → kill_late names o s slot ≡ kill_late others o s slot
kill_same names others None s slot h = refl
kill_same names others (Some (i, x)) s slot h = λ j. if is_over x && not (h slot.alloca j) then with_memory s (killed s.world.memory slot.block) else s

module _ (m : Module) where
  abbrev with_number : Option (ℕ × Instance) → Option (ℕ × Instance)
  with_number o = option_map (λ (y : ℕ × Instance). (y.0, saved_instance m y.1)) o

  pub slots_saved : (r : List ℕ) (o : Option (ℕ × Instance)) (s : State) (slots : List Slot) → with_new_slots r (with_number o) (saved_state m s) slots ≡ saved_state m (with_new_slots r o s slots)
  slots_saved r None s slots = refl
  slots_saved r (Some (i, x)) s slots =
      ap (λ (t : State). with_slots t (filter (λ (slot : Slot). has_name r slot.alloca) slots ++ s.top.slots))
      (with_instance_saved m s i (record x { slots = filter (λ (slot : Slot). not (has_name r slot.alloca)) slots ++ x.slots }))

  finished_saved : (f : Function) (status : Status) → is_finished (saved_status f status) ≡ is_finished status
  finished_saved f Status.Running = refl
  finished_saved f (Status.Suspended p values) = refl
  finished_saved f Status.Finished = refl

  pub over_saved : (x : Instance) → is_over (saved_instance m x) ≡ is_over x
  over_saved x = ap (λ (b : Bool). b || x.freed) (finished_saved (function_at m x.coroutine) x.status)

  kill_saved : (r : List ℕ) (o : Option (ℕ × Instance)) (s : State) (slot : Slot) → kill_late r (with_number o) (saved_state m s) slot ≡ saved_state m (kill_late r o s slot)
  kill_saved r None s slot = refl
  kill_saved r (Some (i, x)) s slot =
      ap (λ (b : Bool). if b && not (has_name r slot.alloca) then with_memory (saved_state m s) (killed s.world.memory slot.block) else saved_state m s) (over_saved x)
      ∙ on (is_over x && not (has_name r slot.alloca))
    where
      on : (b : Bool) → (if b then with_memory (saved_state m s) (killed s.world.memory slot.block) else saved_state m s) ≡ saved_state m (if b then with_memory s (killed s.world.memory slot.block) else s)
      on true = refl
      on false = refl

  -- a new slot goes to the same owner
  pub new_slot_saved : (sizes : List Frame) (answers : List ℤ) (s : State) (slot : Slot) → HasNamedTokens (function_at m s.top.func) → new_slot (given (saves_written m) sizes answers) (saved_state m s) slot ≡ saved_state m (new_slot (given m sizes answers) s slot)
  new_slot_saved sizes answers s slot named =
      ap (λ (x : Facts). with_new_slots x.ramp_slots (own_instance (saved_state m s)) (kill_late x.ramp_slots (own_instance (saved_state m s)) (saved_state m s) slot) (slot ∷ [])) (facts_saved m s.top.func)
      ∙ (λ j. new_slots_same after before (own_instance (saved_state m s)) (kill_same after before (own_instance (saved_state m s)) (saved_state m s) slot same j) (slot ∷ []) same j)
      ∙ ap (λ (o : Option (ℕ × Instance)). with_new_slots before o (kill_late before o (saved_state m s) slot) (slot ∷ [])) (own_saved m s)
      ∙ ap (λ (t : State). with_new_slots before (with_number (own_instance s)) t (slot ∷ [])) (kill_saved before (own_instance s) s slot)
      ∙ slots_saved before (own_instance s) (kill_late before (own_instance s) s slot) (slot ∷ [])
      ∙ ap (λ (x : Facts). saved_state m (with_new_slots x.ramp_slots (own_instance s) (kill_late x.ramp_slots (own_instance s) s slot) (slot ∷ []))) (sym (facts_are m s.top.func))
    where
      f : Function
      f = function_at m s.top.func

      before : List ℕ
      before = (facts_of f).ramp_slots

      after : List ℕ
      after = (facts_of (saved_function f)).ramp_slots

      same : (v : ℕ) → has_name after v ≡ has_name before v
      same v = same_ramp_slots f named v

  -- ---- deallocation

  suspended_saved : (f : Function) (status : Status) → is_suspended (saved_status f status) ≡ is_suspended status
  suspended_saved f Status.Running = refl
  suspended_saved f (Status.Suspended p values) = refl
  suspended_saved f Status.Finished = refl

  freed_saved : (x : Instance) → may_be_freed (saved_instance m x) ≡ may_be_freed x
  freed_saved x = ap (λ (b : Bool). x.released && not b) (suspended_saved (function_at m x.coroutine) x.status)

  let_go_saved : (s : State) (i : ℕ) (x : Instance) → let_go (saved_state m s) i (saved_instance m x) ≡ saved_state m (let_go s i x)
  let_go_saved s i x = ap (λ (t : State). with_memory t (disown (without_slots s.world.memory x.slots) x.block)) (with_instance_saved m s i (record x { freed = true }))

  if_let_go_saved : (s : State) (o : Option (ℕ × Instance)) → if_let_go (saved_state m s) (with_number o) ≡ saved_state m (if_let_go s o)
  if_let_go_saved s None = refl
  if_let_go_saved s (Some (i, x)) =
      ap (λ (b : Bool). if b then let_go (saved_state m s) i (saved_instance m x) else saved_state m s) (freed_saved x) ∙ on (may_be_freed x)
    where
      on : (b : Bool) → (if b then let_go (saved_state m s) i (saved_instance m x) else saved_state m s) ≡ saved_state m (if b then let_go s i x else s)
      on true = let_go_saved s i x
      on false = refl

  -- what a deallocation of the address in a state leaves
  abbrev freed_in : State → Value → Result State Cause
  freed_in t p = and_then (deallocated t.world.memory p) (λ (memory : List MemoryBlock). Ok (next (with_memory t memory)))

  freed_in_saved : (t : State) (p : Value) → StandsAlone m t → freed_in (saved_state m t) p ≡ saved_result m (freed_in t p)
  freed_in_saved t p lone = on (deallocated t.world.memory p)
    where
      on : (r : Result (List MemoryBlock) Cause) → and_then r (λ (memory : List MemoryBlock). Ok (next (with_memory (saved_state m t) memory))) ≡ saved_result m (and_then r (λ (memory : List MemoryBlock). Ok (next (with_memory t memory))))
      on (Err cause) = refl
      on (Ok memory) = ap Ok (settled_saved m (with_memory t memory) lone (work_of (with_memory t memory)))

  still_alone : (s : State) → StandsAlone m s → (o : Option (ℕ × Instance)) → StandsAlone m (if_let_go s o)
  still_alone s lone None = lone
  still_alone s lone (Some (i, x)) = on (may_be_freed x)
    where
      on : (b : Bool) → StandsAlone m (if b then let_go s i x else s)
      on true = lone
      on false = lone

  pub deallocate_saved : (s : State) (p : Value) → StandsAlone m s → deallocate (saved_state m s) p ≡ saved_result m (deallocate s p)
  deallocate_saved s p lone =
      ap (λ (o : Option (ℕ × Instance)). freed_in (if_let_go (saved_state m s) o) p) (found_saved m s.instances p)
      ∙ ap (λ (t : State). freed_in t p) (if_let_go_saved s (instance_at s.instances p))
      ∙ freed_in_saved (if_let_go s (instance_at s.instances p)) p (still_alone s lone (instance_at s.instances p))
