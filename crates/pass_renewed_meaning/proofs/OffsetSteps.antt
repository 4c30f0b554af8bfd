-- Each state of the first run has offsets of 64 bits.
use Rattle.std.proofs.Common.{◌≡◌, ◌<◌, ℕ, zero, suc, ◌+◌, ◌^◌, Bool, true, false, not, List, [], ◌∷◌, ◌++◌, length}
use Rattle.std.proofs.Common.{Option, Some, None, Result, Ok, Err, refl, sym, ap, ◌∙◌, subst, arith, if◌then◌else◌, ◌&&◌, ◌==◌}
use Rattle.std.specs.List.{AllByRecursion, list_all}
use Rattle.std.specs.Prelude.{filter, slice_get, slice_set, unwrap_or}
use Rattle.run_types.specs.ir_base.declared.cause.Cause.{Cause}
use Rattle.run_types.specs.ir_base.declared.outcome.Outcome.{Outcome}
use Rattle.run_types.specs.ir_model.Names.{position_of}
use Rattle.run_types.specs.ir_paths.declared.point.Point.{Point}
use Rattle.run_types.specs.ir_paths.declared.point.Window.{Window}
use Rattle.run_types.proofs.run_hooks.alive.Parts.{all_where}
use Rattle.run_types.proofs.run_hooks.Reached.{at_is}
use Rattle.run_types.proofs.run_hooks.alive.Places.{own_there}
use Rattle.run_types.specs.run_memory.Memory.{disown, killed}
use Rattle.run_types.specs.run_memory.declared.block.MemoryBlock.{MemoryBlock}
use Rattle.run_types.specs.run_memory.declared.pointer.Value.{Value}
use Rattle.run_types.specs.run_source.Source.{branch_leaving, change_own}
use Rattle.run_types.specs.run_source.Source.{coro, deallocate, end_of, enter_block, finish, first_state, frame_address, frame_of_promise}
use Rattle.run_types.specs.run_source.Source.{go_to, has_promise_at, if_let_go, is_among, is_live_at, is_over, kill_late, left_windows}
use Rattle.run_types.specs.run_source.Source.{let_go, may_be_freed, may_leave, new_instance, new_slot, pop, promise, promise_block, push}
use Rattle.run_types.specs.run_source.Source.{promise_of_frame, release, resumed, return, returned, save, save_for, sleeper_at, slots_of}
use Rattle.run_types.specs.run_source.Source.{sleeper_of, step_by, suspend, with_new_slots}
use Rattle.run_types.specs.run_source.State.{function_of, gives, instance_at, next, own_facts}
use Rattle.run_types.specs.run_source.State.{own_instance, point_of, settled, with_instance, with_left, with_memory, with_slots}
use Rattle.run_types.specs.run_source.State.{with_status, work_of}
use Rattle.run_types.specs.run_source.declared.state.Activation.{Activation}
use Rattle.run_types.specs.run_source.declared.state.Instance.{Instance}
use Rattle.run_types.specs.run_source.declared.state.State.{State}
use Rattle.run_types.specs.run_source.declared.state.Status.{Status}
use Rattle.run_types.specs.run_source_tables.Given.{Given}
use Rattle.run_types.specs.run_step.Results.{and_then, found, ok_if}
use Rattle.run_types.specs.run_step.Step.{deallocated, label_of, outcome_of, without_slots}
use Rattle.run_types.specs.run_step.declared.world.Slot.{Slot}
use Rattle.pass_renewed_meaning.proofs.OffsetBytes.{GivesSmall, HaveSmall, deallocated_has, disowned_has, killed_has}
use Rattle.pass_renewed_meaning.proofs.OffsetBytes.{own_has, without_has}
use Rattle.pass_renewed_meaning.proofs.OffsetValues.{AreSmall, block_small}
use Rattle.pass_renewed_meaning.proofs.OffsetValues.{entry_small, kept_small, nth_small, result_small, stored_small, zero_small}
use Rattle.run_types.specs.pass_renewed_proof.Small.{HasSmallOffset}

-- ---- states

abbrev pub IsSmallStatus : Status → Type 0
IsSmallStatus (Status.Suspended u env) = AreSmall env
IsSmallStatus status = Unit {0}

pub record IsSmallInstance (x : Instance) : Type 0 where
  pub start : x.start < 2 ^ 64
  pub status : IsSmallStatus x.status

abbrev pub AreSmallBelow : List Activation → Type 0
AreSmallBelow [] = Unit {0}
AreSmallBelow (a ∷ below) = AreSmall a.values × AreSmallBelow below

pub record IsSmallState (s : State) : Type 0 where
  pub memory : HaveSmall s.world.memory
  pub top : AreSmall s.top.values
  pub below : AreSmallBelow s.below
  pub instances : AllByRecursion (λ x. IsSmallInstance x) s.instances

abbrev pub Stays : Result State Cause → Type 0
Stays (Ok s) = IsSmallState s
Stays (Err cause) = Unit {0}

-- ---- parts

all_set : (xs : List Instance) (i : ℕ) (y : Instance) → IsSmallInstance y → AllByRecursion (λ x. IsSmallInstance x) xs
    → AllByRecursion (λ x. IsSmallInstance x) (slice_set xs i y)
all_set [] i y p h = h
all_set (x ∷ xs) zero y p h = (p, h.1)
all_set (x ∷ xs) (suc i) y p h = (h.0, all_set xs i y p h.1)

pub there : (s : State) → IsSmallState s → (i : ℕ) (x : Instance) → slice_get s.instances i ≡ Some x → IsSmallInstance x
there s h i x e = all_where (λ (x : Instance). IsSmallInstance x) s.instances h.instances i x e

pub instance_set : (s : State) → IsSmallState s → (i : ℕ) (x : Instance) → IsSmallInstance x
    → IsSmallState (with_instance s i x)
instance_set s h i x k = record {
  memory = h.memory;
  top = h.top;
  below = h.below;
  instances = all_set s.instances i x k h.instances;
}

pub memory_set : (s : State) → IsSmallState s → (memory : List MemoryBlock) → HaveSmall memory
    → IsSmallState (with_memory s memory)
memory_set s h memory k = record { memory = k; top = h.top; below = h.below; instances = h.instances }

pub gives_small : (s : State) → IsSmallState s → (result : Option ℕ) (v : Value) → HasSmallOffset v
    → IsSmallState (gives s result v)
gives_small s h result v k = record {
  memory = h.memory;
  top = result_small s.top.values result v h.top k;
  below = h.below;
  instances = h.instances;
}

same_top : (s : State) → IsSmallState s → (t : State) → t.world ≡ s.world → t.top.values ≡ s.top.values → t.below ≡ s.below
    → t.instances ≡ s.instances → IsSmallState t
same_top s h t world top below instances = record {
  memory = subst (λ w. HaveSmall w.memory) (sym world) h.memory;
  top = subst AreSmall (sym top) h.top;
  below = subst AreSmallBelow (sym below) h.below;
  instances = subst (AllByRecursion (λ x. IsSmallInstance x)) (sym instances) h.instances;
}

pub next_small : (s : State) → IsSmallState s → IsSmallState (next s)
next_small s h = same_top s h (next s) refl refl refl refl

left_small : (s : State) → IsSmallState s → (b : Bool) → IsSmallState (with_left s b)
left_small s h b = same_top s h (with_left s b) refl refl refl refl

pub slots_small : (s : State) → IsSmallState s → (slots : List Slot) → IsSmallState (with_slots s slots)
slots_small s h slots = same_top s h (with_slots s slots) refl refl refl refl

pub block_entered : (g : Given) (s : State) → IsSmallState s → (label : ℕ) → IsSmallState (enter_block g s label)
block_entered g s h label = record {
  memory = h.memory;
  top = block_small g.code (slice_get (function_of g s).blocks (position_of (function_of g s) label)) (label_of (slice_get
      (function_of g s).blocks s.top.block)) s.top.values h.top;
  below = h.below;
  instances = h.instances;
}

pub pushed : (s : State) → IsSmallState s → (a : Activation) → AreSmall a.values → IsSmallState (push s a)
pushed s h a k = record { memory = h.memory; top = k; below = (h.top, h.below); instances = h.instances }

pub return_small : (s : State) → IsSmallState s → (v : Option Value) → HasSmallOffset (unwrap_or v Value.Poison)
    → Stays (return s v)
return_small s h v small = on s.below h.below
  where
    memory : HaveSmall (without_slots s.world.memory s.top.slots)
    memory = without_has s.world.memory s.top.slots h.memory

    last : (r : Result Outcome Cause) → Stays (and_then r (λ outcome. Ok (record (returned s) { outcome = outcome })))
    last (Err cause) = tt
    last (Ok outcome) = record { memory = memory; top = h.top; below = h.below; instances = h.instances }

    on : (below : List Activation) → AreSmallBelow below → Stays (pop (returned s) v below)
    on [] k = last (outcome_of v)
    on (a ∷ below) k = record {
      memory = memory;
      top = result_small a.values s.top.result (unwrap_or v Value.Poison) k.0 small;
      below = k.1;
      instances = h.instances;
    }

pub slot_small : (g : Given) (s : State) → IsSmallState s → (slot : Slot) → IsSmallState (new_slot g s slot)
slot_small g s h slot = on (own_instance s) (λ i x e. (own_there s i x e).1)
  where
    late : (t : Bool) → IsSmallState (if t then with_memory s (killed s.world.memory slot.block) else s)
    late true = memory_set s h (killed s.world.memory slot.block) (killed_has s.world.memory slot.block h.memory)
    late false = h

    by : (i : ℕ) (x : Instance) → slice_get s.instances i ≡ Some x → (u : State) → IsSmallState u → IsSmallState
        (with_new_slots (own_facts g s).ramp_slots (Some (i, x)) u (slot ∷ []))
    by i x e u k =
        let y : Instance = record x {
          slots = filter (λ slot. not (is_among (own_facts g s).ramp_slots slot)) (slot ∷ []) ++ x.slots;
        } in
        let old = there s h i x e in
        slots_small (with_instance u i y) (instance_set u k i y (record { start = old.start; status = old.status })) (filter
        (is_among (own_facts g s).ramp_slots) (slot ∷ []) ++ u.top.slots)

    on : (o : Option (ℕ × Instance)) → ((i : ℕ) (x : Instance) → o ≡ Some (i, x) → slice_get s.instances i ≡ Some x)
        → IsSmallState (with_new_slots (own_facts g s).ramp_slots o (kill_late (own_facts g s).ramp_slots o s slot) (slot ∷
        []))
    on None is = slots_small s h (slot ∷ s.top.slots)
    on (Some p) is = by p.0 p.1 (is p.0 p.1 refl) _ (late (is_over p.1 && not (is_among (own_facts g s).ramp_slots slot)))

-- an instance changes, but for its status
pub change_small : (s : State) → IsSmallState s → (f : Instance → Instance) → ((x : Instance) → IsSmallInstance x
    → IsSmallInstance (f x)) → IsSmallState (change_own s f (own_instance s))
change_small s h f k = on (own_instance s) (λ i x e. (own_there s i x e).1)
  where
    on : (o : Option (ℕ × Instance)) → ((i : ℕ) (x : Instance) → o ≡ Some (i, x) → slice_get s.instances i ≡ Some x)
        → IsSmallState (change_own s f o)
    on None is = h
    on (Some p) is = instance_set s h p.0 (f p.1) (k p.1 (there s h p.0 p.1 (is p.0 p.1 refl)))

pub finish_small : (s : State) → IsSmallState s → IsSmallState (finish s)
finish_small s h = memory_set (change_own s (λ x. record x { status = Status.Finished }) (own_instance s)) (change_small s h
    (λ x. record x { status = Status.Finished }) (λ x k. record { start = k.start; status = tt })) (without_slots
    s.world.memory (slots_of (own_instance s))) (without_has s.world.memory (slots_of (own_instance s)) h.memory)

pub freed_small : (s : State) → IsSmallState s → (v : Value) → Stays (deallocate s v)
freed_small s h v = on (instance_at s.instances v) (λ i x e. at_is s.instances v i x e)
  where
    by : (t : State) → IsSmallState t → Stays (and_then (deallocated t.world.memory v) (λ memory. Ok (next (with_memory t
        memory))))
    by t k = last (deallocated t.world.memory v) (deallocated_has t.world.memory v k.memory)
      where
        last : (r : Result (List MemoryBlock) Cause) → GivesSmall r → Stays (and_then r (λ memory. Ok (next (with_memory t
            memory))))
        last (Err cause) b = tt
        last (Ok memory) b = next_small (with_memory t memory) (memory_set t k memory b)

    let_small : (i : ℕ) (x : Instance) → slice_get s.instances i ≡ Some x → IsSmallState (let_go s i x)
    let_small i x e =
        let old = there s h i x e in
        memory_set (with_instance s i (record x { freed = true })) (instance_set s h i (record x { freed = true }) (record {
          start = old.start;
          status = old.status;
        })) (disown (without_slots s.world.memory x.slots) x.block) (disowned_has (without_slots s.world.memory x.slots) x.block
        (without_has s.world.memory x.slots h.memory))

    freed : (i : ℕ) (x : Instance) → slice_get s.instances i ≡ Some x → (b : Bool) → IsSmallState (if b then let_go s i x else
        s)
    freed i x e true = let_small i x e
    freed i x e false = h

    on : (o : Option (ℕ × Instance)) → ((i : ℕ) (x : Instance) → o ≡ Some (i, x) → slice_get s.instances i ≡ Some x)
        → Stays (and_then (deallocated (if_let_go s o).world.memory v) (λ memory. Ok (next (with_memory (if_let_go s o)
        memory))))
    on None is = by s h
    on (Some p) is = by _ (freed p.0 p.1 (is p.0 p.1 refl) (may_be_freed p.1))

pub goes_small : (g : Given) (s : State) → IsSmallState s → (label : ℕ) → Stays (go_to g s label)
goes_small g s h label = on (left_windows g s label)
  where
    by : (i : ℕ) (x : Instance) → slice_get s.instances i ≡ Some x → (b : Bool) → Stays (ok_if b Cause.State (enter_block g
        (with_left (with_status s i x Status.Running) false) label))
    by i x e false = tt
    by i x e true = block_entered g (with_left (with_status s i x Status.Running) false) (left_small (with_status s i x
        Status.Running) (instance_set s h i (record x { status = Status.Running }) (record {
          start = (there s h i x e).start;
          status = tt;
        })) false) label

    leaving : (ws : List Window) (o : Option (ℕ × Instance)) → ((i : ℕ) (x : Instance) → o ≡ Some (i, x) → slice_get
        s.instances i ≡ Some x) → Stays (and_then (found Cause.State o) (λ (r : ℕ × Instance). ok_if (list_all (may_leave
        (length s.below) r.1) ws) Cause.State (enter_block g (with_left (with_status s r.0 r.1 Status.Running) false) label)))
    leaving ws None is = tt
    leaving ws (Some p) is = by p.0 p.1 (is p.0 p.1 refl) (list_all (may_leave (length s.below) p.1) ws)

    on : (ws : List Window) → Stays (branch_leaving g s label ws)
    on [] = block_entered g s h label
    on (w ∷ ws) = leaving (w ∷ ws) (own_instance s) (λ i x e. (own_there s i x e).1)

pub saved_small : (s : State) → IsSmallState s → (save u : Point) (go : State → Result State Cause) → ((t : State)
    → IsSmallState t → Stays (go t)) → Stays (and_then (save_for s save u) go)
saved_small s h save u go k = on (own_instance s) (λ i x e. (own_there s i x e).1)
  where
    by : (i : ℕ) (x : Instance) → slice_get s.instances i ≡ Some x → (b : Bool) → Stays (and_then (ok_if b Cause.State
        (with_left (with_instance s i (record x {
          status = Status.Suspended u s.top.values;
          last_save = Some (record { depth = length s.below; save = save });
        })) true)) go)
    by i x e false = tt
    by i x e true =
        let y : Instance = record x {
          status = Status.Suspended u s.top.values;
          last_save = Some (record { depth = length s.below; save = save });
        } in
        k (with_left (with_instance s i y) true) (left_small (with_instance s i y) (instance_set s h i y (record {
          start = (there s h i x e).start;
          status = h.top;
        })) true)

    on : (o : Option (ℕ × Instance)) → ((i : ℕ) (x : Instance) → o ≡ Some (i, x) → slice_get s.instances i ≡ Some x)
        → Stays (and_then (and_then (found Cause.State o) (λ (r : ℕ × Instance). ok_if (not r.1.freed) Cause.State (with_left
        (with_instance s r.0 (record r.1 {
          status = Status.Suspended u s.top.values;
          last_save = Some (record { depth = length s.below; save = save });
        })) true))) go)
    on None is = tt
    on (Some p) is = by p.0 p.1 (is p.0 p.1 refl) (not p.1.freed)
