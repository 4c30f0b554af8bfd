-- Parts of a step keep states where pointers' types have pointers.
use Rattle.std.proofs.Common.{◌≡◌, ℕ, zero, suc, Bool, true, false, List, [], ◌∷◌, ◌++◌, length}
use Rattle.std.proofs.Common.{Option, Some, None, Result, Ok, Err, refl, sym, subst, ◌&&◌}
use Rattle.std.specs.List.{AllByRecursion, list_all}
use Rattle.std.specs.Prelude.{filter, if◌then◌else◌, not, slice_get, slice_set, unwrap_or}
use Rattle.pass_frames_proof.specs.ir_base.declared.cause.Cause.{Cause}
use Rattle.pass_frames_proof.specs.ir_base.declared.outcome.Outcome.{Outcome}
use Rattle.pass_frames_proof.specs.ir_model.Names.{function_at, position_of}
use Rattle.pass_frames_proof.specs.ir_model.declared.module.Function.{Function}
use Rattle.pass_frames_proof.specs.ir_model.declared.module.Module.{Module}
use Rattle.pass_frames_proof.specs.ir_paths.declared.point.Point.{Point}
use Rattle.pass_frames_proof.specs.ir_paths.declared.point.Window.{Window}
use Rattle.pass_frames_proof.specs.rule_values.Kinds.{value_kind}
use Rattle.pass_renewed_meaning.proofs.run_hooks.alive.Parts.{all_where}
use Rattle.pass_renewed_meaning.proofs.run_hooks.alive.Places.{own_there}
use Rattle.pass_frames_proof.specs.run_memory.Memory.{disown, killed}
use Rattle.pass_frames_proof.specs.run_memory.declared.block.MemoryBlock.{MemoryBlock}
use Rattle.pass_frames_proof.specs.run_memory.declared.pointer.Value.{Value}
use Rattle.pass_frames_proof.specs.run_source.Source.{branch_leaving, called, change_own, deallocate, enter_block, go_to, if_let_go}
use Rattle.pass_frames_proof.specs.run_source.Source.{is_among, is_over, kill_late, left_windows, let_go, may_be_freed, may_leave}
use Rattle.pass_frames_proof.specs.run_source.Source.{new_slot, pop, push, return, returned, save_for, with_new_slots}
use Rattle.pass_frames_proof.specs.run_source.State.{gives, instance_at, next, own_facts, own_instance, settled, with_instance, with_left}
use Rattle.pass_frames_proof.specs.run_source.State.{with_memory, with_slots, with_status}
use Rattle.pass_frames_proof.specs.run_source.declared.state.Activation.{Activation}
use Rattle.pass_frames_proof.specs.run_source.declared.state.Instance.{Instance}
use Rattle.pass_frames_proof.specs.run_source.declared.state.Mode.{Mode}
use Rattle.pass_frames_proof.specs.run_source.declared.state.State.{State}
use Rattle.pass_frames_proof.specs.run_source.declared.state.Status.{Status}
use Rattle.pass_frames_proof.specs.run_source_tables.Given.{Given}
use Rattle.pass_frames_proof.specs.run_step.Results.{and_then, found, ok_if}
use Rattle.pass_frames_proof.specs.run_step.Step.{Work, deallocated, label_of, outcome_of, values_in, without_slots}
use Rattle.pass_frames_proof.specs.run_step.declared.world.Slot.{Slot}
use Rattle.pass_frames_meaning.proofs.pointers.Values.{block_points, entry_points, result_points}
use Rattle.pass_frames_meaning.specs.Pointers.{ArePointing, ArePointingBelow, IsPointingState, PointInstances}
use Rattle.pass_frames_meaning.specs.Pointers.{PointParams, PointsAs, PointsAsleep, PointsBack, PointsOn, StaysPointing}
use Rattle.pass_renewed_meaning.proofs.run_types.Parts.{all_set}
use Rattle.pass_renewed_meaning.specs.run_types.Rules.{KeepsAllTypes}

-- ---- instances

module _ (m : Module) where
  abbrev Fits : Instance → Type 0
  Fits x = PointsAsleep (function_at m x.coroutine) x.status

  pub instance_set : (s : State) → IsPointingState m s → (i : ℕ) (x : Instance)
      → PointsAsleep (function_at m x.coroutine) x.status → IsPointingState m (with_instance s i x)
  instance_set s h i x k = record {
    top = h.top;
    below = h.below;
    instances = all_set Fits s.instances i x k h.instances;
  }

  pub instance_there : (s : State) → IsPointingState m s → (i : ℕ) (x : Instance) → slice_get s.instances i ≡ Some x
      → PointsAsleep (function_at m x.coroutine) x.status
  instance_there s h i x e = all_where Fits s.instances h.instances i x e

  pub memory_set : (s : State) → IsPointingState m s → (memory : List MemoryBlock)
      → IsPointingState m (with_memory s memory)
  memory_set s h memory = record { top = h.top; below = h.below; instances = h.instances }

  pub settled_fits : (s : State) → IsPointingState m s → (w : Work) → ArePointing (function_at m s.top.func) w.values
      → IsPointingState m (settled s w)
  settled_fits s h w k = record { top = k; below = h.below; instances = h.instances }

  pub gives_fits : (s : State) → IsPointingState m s → (result : Option ℕ) (v : Value)
      → ((n : ℕ) → result ≡ Some n → PointsAs (value_kind (function_at m s.top.func) n) v)
      → IsPointingState m (gives s result v)
  gives_fits s h result v k = record {
    top = result_points (function_at m s.top.func) s.top.values result v h.top k;
    below = h.below;
    instances = h.instances;
  }

  pub next_fits : (s : State) → IsPointingState m s → IsPointingState m (next s)
  next_fits s h = record { top = h.top; below = h.below; instances = h.instances }

  -- the slots and marks of the topmost activation are nothing to it
  pub slots_set : (s : State) → IsPointingState m s → (slots : List Slot) → IsPointingState m (with_slots s slots)
  slots_set s h slots = record { top = h.top; below = h.below; instances = h.instances }

  pub left_set : (s : State) → IsPointingState m s → (b : Bool) → IsPointingState m (with_left s b)
  left_set s h b = record { top = h.top; below = h.below; instances = h.instances }

  -- ---- a block is entered

  pub entered : (g : Given) → g.code ≡ m → KeepsAllTypes m → (s : State) → IsPointingState m s → (label : ℕ)
      → IsPointingState m (enter_block g s label)
  entered g code rules s h label = record {
    top = subst (λ (k : Module). ArePointing (function_at m s.top.func)
        (values_in k
        (slice_get (function_at k s.top.func).blocks (position_of (function_at k s.top.func) label))
        (label_of (slice_get (function_at k s.top.func).blocks s.top.block)) s.top.values)) (sym code)
        (block_points m (function_at m s.top.func) (position_of (function_at m s.top.func) label)
        (label_of (slice_get (function_at m s.top.func).blocks s.top.block)) s.top.values (rules s.top.func) h.top);
    below = h.below;
    instances = h.instances;
  }

  -- ---- calls

  -- an activation comes on top, to which the one below waits
  pub pushed : (s : State) → IsPointingState m s → (a : Activation) → ArePointing (function_at m a.func) a.values
      → PointsOn m a.func a.result (function_at m s.top.func) → IsPointingState m (push s a)
  pushed s h a k goes = record {
    top = k;
    below = (goes, h.top, h.below);
    instances = h.instances;
  }

  pub called_fits : (s : State) → IsPointingState m s → KeepsAllTypes m → (func : ℕ) (args : List Value)
      (result : Option ℕ) (mode : Mode) → PointParams (function_at m func).params args
      → PointsOn m func result (function_at m s.top.func)
      → IsPointingState m (push s (called m func args result mode))
  called_fits s h rules func args result mode k goes =
      pushed s h (called m func args result mode) (entry_points m (function_at m func) (rules func) args k) goes

  -- what is pushed for no name
  pub no_result : (func : ℕ) (f : Function) → PointsOn m func None f
  no_result func f = λ n e v fit. absurd (cc)

  -- ---- returns

  pub returned_fits : (s : State) → IsPointingState m s → (v : Option Value)
      → PointsBack (function_at m s.top.func).result (unwrap_or v Value.Poison) → StaysPointing m (return s v)
  returned_fits s h v fit = on s.below refl
    where
      last : (r : Result Outcome Cause)
          → StaysPointing m (and_then r (λ outcome. Ok (record (returned s) { outcome = outcome })))
      last (Err cause) = tt
      last (Ok outcome) = record { top = h.top; below = h.below; instances = h.instances }

      on : (below : List Activation) → s.below ≡ below → StaysPointing m (pop (returned s) v below)
      on [] e = last (outcome_of v)
      on (a ∷ below) e =
          let k : ArePointingBelow m s.top.func s.top.result (a ∷ below) =
          subst (ArePointingBelow m s.top.func s.top.result) e h.below in
          record {
            top = result_points (function_at m a.func) a.values s.top.result (unwrap_or v Value.Poison) k.1
                (λ n en. k.0 n en (unwrap_or v Value.Poison) fit);
            below = k.2;
            instances = h.instances;
          }

  -- ---- a new slot

  pub placed : (g : Given) (s : State) → IsPointingState m s → (slot : Slot) → IsPointingState m (new_slot g s slot)
  placed g s h slot = on (own_instance s) (λ i x e. (own_there s i x e).1)
    where
      late : (t : Bool) → IsPointingState m (if t then with_memory s (killed s.world.memory slot.block) else s)
      late true = memory_set s h (killed s.world.memory slot.block)
      late false = h

      by : (i : ℕ) (x : Instance) → slice_get s.instances i ≡ Some x → (t : Bool)
          → IsPointingState m (with_new_slots (own_facts g s).ramp_slots (Some (i, x))
          (if t then with_memory s (killed s.world.memory slot.block) else s) (slot ∷ []))
      by i x e t = record {
        top = on_top t;
        below = on_below t;
        instances = on_instances t;
      }
        where
          y : Instance
          y = record x {
            slots = filter (λ slot. not (is_among (own_facts g s).ramp_slots slot)) (slot ∷ []) ++ x.slots;
          }

          on_top : (t : Bool) → ArePointing (function_at m (if t then with_memory s (killed s.world.memory slot.block)
              else s).top.func)
              (if t then with_memory s (killed s.world.memory slot.block) else s).top.values
          on_top true = h.top
          on_top false = h.top

          on_below : (t : Bool) → ArePointingBelow m (if t then with_memory s (killed s.world.memory slot.block) else
              s).top.func
              (if t then with_memory s (killed s.world.memory slot.block) else s).top.result
              (if t then with_memory s (killed s.world.memory slot.block) else s).below
          on_below true = h.below
          on_below false = h.below

          on_instances : (t : Bool) → PointInstances m (slice_set (if t then with_memory s
              (killed s.world.memory slot.block) else s).instances i
              (record x {
                slots = filter (λ slot. not (is_among (own_facts g s).ramp_slots slot)) (slot ∷ []) ++ x.slots;
              }))
          on_instances true = all_set Fits s.instances i y (instance_there s h i x e) h.instances
          on_instances false = all_set Fits s.instances i y (instance_there s h i x e) h.instances

      on : (o : Option (ℕ × Instance)) → ((i : ℕ) (x : Instance) → o ≡ Some (i, x) → slice_get s.instances i ≡ Some x)
          → IsPointingState m (with_new_slots (own_facts g s).ramp_slots o
          (kill_late (own_facts g s).ramp_slots o s slot) (slot ∷ []))
      on None is = slots_set s h (slot ∷ s.top.slots)
      on (Some p) is = by p.0 p.1 (is p.0 p.1 refl) (is_over p.1 && not (is_among (own_facts g s).ramp_slots slot))

  -- ---- an instance changes, but for its status

  pub changed_own : (s : State) → IsPointingState m s → (g : Instance → Instance)
      → ((x : Instance) → PointsAsleep (function_at m x.coroutine) x.status
      → PointsAsleep (function_at m (g x).coroutine) (g x).status) → (o : Option (ℕ × Instance))
      → ((i : ℕ) (x : Instance) → o ≡ Some (i, x) → slice_get s.instances i ≡ Some x)
      → IsPointingState m (change_own s g o)
  changed_own s h g k None is = h
  changed_own s h g k (Some p) is = instance_set s h p.0 (g p.1) (k p.1 (instance_there s h p.0 p.1 (is p.0 p.1 refl)))

  -- ---- a deallocation

  pub freed_fits : (s : State) → IsPointingState m s → (v : Value)
      → ((i : ℕ) (x : Instance) → instance_at s.instances v ≡ Some (i, x) → slice_get s.instances i ≡ Some x)
      → StaysPointing m (deallocate s v)
  freed_fits s h v found = on (instance_at s.instances v) found
    where
      by : (t : State) → IsPointingState m t
          → StaysPointing m (and_then (deallocated t.world.memory v) (λ memory. Ok (next (with_memory t memory))))
      by t k = last (deallocated t.world.memory v)
        where
          last : (r : Result (List MemoryBlock) Cause)
              → StaysPointing m (and_then r (λ memory. Ok (next (with_memory t memory))))
          last (Err cause) = tt
          last (Ok memory) = next_fits (with_memory t memory) (memory_set t k memory)

      let_fits : (i : ℕ) (x : Instance) → slice_get s.instances i ≡ Some x → IsPointingState m (let_go s i x)
      let_fits i x e = memory_set (with_instance s i (record x { freed = true }))
          (instance_set s h i (record x { freed = true }) (instance_there s h i x e))
          (disown (without_slots s.world.memory x.slots) x.block)

      freed : (i : ℕ) (x : Instance) → slice_get s.instances i ≡ Some x → (b : Bool)
          → StaysPointing m (and_then (deallocated (if b then let_go s i x else s).world.memory v)
          (λ memory. Ok (next (with_memory (if b then let_go s i x else s) memory))))
      freed i x e true = by (let_go s i x) (let_fits i x e)
      freed i x e false = by s h

      on : (o : Option (ℕ × Instance)) → ((i : ℕ) (x : Instance) → o ≡ Some (i, x) → slice_get s.instances i ≡ Some x)
          → StaysPointing m (and_then (deallocated (if_let_go s o).world.memory v)
          (λ memory. Ok (next (with_memory (if_let_go s o) memory))))
      on None is = by s h
      on (Some p) is = freed p.0 p.1 (is p.0 p.1 refl) (may_be_freed p.1)

  -- ---- a branch

  pub went : (g : Given) → g.code ≡ m → KeepsAllTypes m → (s : State) → IsPointingState m s → (label : ℕ)
      → StaysPointing m (go_to g s label)
  went g code rules s h label = on (left_windows g s label)
    where
      by : (i : ℕ) (x : Instance) → (b : Bool)
          → StaysPointing m (ok_if b Cause.State (enter_block g (with_left (with_status s i x Status.Running) false)
          label))
      by i x false = tt
      by i x true = entered g code rules (with_left (with_status s i x Status.Running) false)
          (left_set (with_status s i x Status.Running) (instance_set s h i (record x { status = Status.Running }) tt)
          false)
          label

      leaving : (ws : List Window) (o : Option (ℕ × Instance))
          → StaysPointing m (and_then (found Cause.State o) (λ (i, x).
          ok_if (list_all (may_leave (length s.below) x) ws) Cause.State
          (enter_block g (with_left (with_status s i x Status.Running) false) label)))
      leaving ws None = tt
      leaving ws (Some p) = by p.0 p.1 (list_all (may_leave (length s.below) p.1) ws)

      on : (ws : List Window) → StaysPointing m (branch_leaving g s label ws)
      on [] = entered g code rules s h label
      on (w ∷ ws) = leaving (w ∷ ws) (own_instance s)

  -- ---- a save

  -- whatever comes behind it keeps it
  pub saved : (s : State) → IsPointingState m s
      → ((i : ℕ) (x : Instance) → s.top.instance ≡ Some i → slice_get s.instances i ≡ Some x → x.coroutine ≡ s.top.func)
      → (save u : Point) (go : State → Result State Cause)
      → ((t : State) → IsPointingState m t → t.top.func ≡ s.top.func → StaysPointing m (go t))
      → StaysPointing m (and_then (save_for s save u) go)
  saved s h own save u go kept = on (own_instance s) (own_there s)
    where
      by : (i : ℕ) (x : Instance) → s.top.instance ≡ Some i → slice_get s.instances i ≡ Some x → (b : Bool)
          → StaysPointing m (and_then (ok_if b Cause.State (with_left (with_instance s i (record x {
            status = Status.Suspended u s.top.values;
            last_save = Some (record { depth = length s.below; save = save });
          })) true)) go)
      by i x ei ex false = tt
      by i x ei ex true = kept (with_left (with_instance s i (record x {
        status = Status.Suspended u s.top.values;
        last_save = Some (record { depth = length s.below; save = save });
      })) true) (left_set (with_instance s i (record x {
        status = Status.Suspended u s.top.values;
        last_save = Some (record { depth = length s.below; save = save });
      })) (instance_set s h i (record x {
        status = Status.Suspended u s.top.values;
        last_save = Some (record { depth = length s.below; save = save });
      }) (subst (λ (c : ℕ). ArePointing (function_at m c) s.top.values) (sym (own i x ei ex)) h.top)) true) refl

      on : (o : Option (ℕ × Instance)) → ((i : ℕ) (x : Instance) → o ≡ Some (i, x)
          → (s.top.instance ≡ Some i) × (slice_get s.instances i ≡ Some x))
          → StaysPointing m (and_then (and_then (found Cause.State o) (λ (i, x). ok_if (not x.freed) Cause.State
          (with_left (with_instance s i (record x {
            status = Status.Suspended u s.top.values;
            last_save = Some (record { depth = length s.below; save = save });
          })) true))) go)
      on None is = tt
      on (Some p) is = let r = is p.0 p.1 refl in by p.0 p.1 r.0 r.1 (not p.1.freed)
