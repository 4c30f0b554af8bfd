-- Parts of a step keep states in which all values fit.
use Rattle.std.proofs.Common.{◌≡◌, ℕ, zero, suc, Bool, true, false, List, [], ◌∷◌, ◌++◌, length}
use Rattle.std.proofs.Common.{Option, Some, None, Result, Ok, Err, refl, sym, subst, ◌&&◌}
use Rattle.std.specs.List.{AllByRecursion, list_all}
use Rattle.std.specs.Prelude.{filter, if◌then◌else◌, not, slice_get, slice_set, unwrap_or}
use Rattle.run_hooks.specs.ir_base.declared.cause.Cause.{Cause}
use Rattle.run_hooks.specs.ir_base.declared.outcome.Outcome.{Outcome}
use Rattle.run_hooks.specs.ir_model.Names.{function_at, position_of}
use Rattle.run_hooks.specs.ir_model.declared.module.Function.{Function}
use Rattle.run_hooks.specs.ir_model.declared.module.Module.{Module}
use Rattle.run_hooks.specs.ir_paths.declared.point.Point.{Point}
use Rattle.run_hooks.specs.ir_paths.declared.point.Window.{Window}
use Rattle.rule_values.specs.Kinds.{value_kind}
use Rattle.run_hooks.proofs.alive.Parts.{all_where}
use Rattle.run_hooks.proofs.alive.Places.{own_there}
use Rattle.run_hooks.specs.run_memory.Memory.{disown, killed}
use Rattle.run_hooks.specs.run_memory.declared.block.MemoryBlock.{MemoryBlock}
use Rattle.run_hooks.specs.run_memory.declared.pointer.Value.{Value}
use Rattle.run_hooks.specs.run_source.Source.{branch_leaving, called, change_own, deallocate, enter_block, go_to, if_let_go}
use Rattle.run_hooks.specs.run_source.Source.{is_among, is_over, kill_late, left_windows, let_go, may_be_freed, may_leave}
use Rattle.run_hooks.specs.run_source.Source.{new_slot, pop, push, return, returned, save_for, with_new_slots}
use Rattle.run_hooks.specs.run_source.State.{gives, instance_at, next, own_facts, own_instance, settled, with_instance, with_left}
use Rattle.run_hooks.specs.run_source.State.{with_memory, with_slots, with_status}
use Rattle.run_hooks.specs.run_source.declared.state.Activation.{Activation}
use Rattle.run_hooks.specs.run_source.declared.state.Instance.{Instance}
use Rattle.run_hooks.specs.run_source.declared.state.Mode.{Mode}
use Rattle.run_hooks.specs.run_source.declared.state.State.{State}
use Rattle.run_hooks.specs.run_source.declared.state.Status.{Status}
use Rattle.run_hooks.specs.run_source_tables.Given.{Given}
use Rattle.run_hooks.specs.run_step.Results.{and_then, found, ok_if}
use Rattle.run_hooks.specs.run_step.Step.{Work, deallocated, label_of, outcome_of, values_in, without_slots}
use Rattle.run_hooks.specs.run_step.declared.world.Slot.{Slot}
use Rattle.run_types.proofs.Bytes.{GivesBytes, deallocated_has, disowned_has, killed_has, without_has}
use Rattle.run_types.proofs.Fit.{block_fits, entry_fits, result_fits}
use Rattle.run_types.specs.Fitting.{AreFitting, FitParams, FitsKind, FitsResult, HaveBytes}
use Rattle.run_types.specs.Rules.{KeepsAllTypes}
use Rattle.run_types.specs.States.{AreFittingBelow, FitInstances, FitsStatus, GoesTo, IsFittingState, StaysFitting}

-- ---- instances

pub all_set : {A : Type 0} (P : A → Type 0) (xs : List A) (i : ℕ) (y : A) → P y → AllByRecursion P xs
    → AllByRecursion P (slice_set xs i y)
all_set P [] i y p h = h
all_set P (x ∷ xs) zero y p h = (p, h.1)
all_set P (x ∷ xs) (suc i) y p h = (h.0, all_set P xs i y p h.1)

module _ (m : Module) where
  abbrev Fits : Instance → Type 0
  Fits x = FitsStatus (function_at m x.coroutine) x.status

  pub instance_set : (s : State) → IsFittingState m s → (i : ℕ) (x : Instance)
      → FitsStatus (function_at m x.coroutine) x.status → IsFittingState m (with_instance s i x)
  instance_set s h i x k = record {
    memory = h.memory;
    top = h.top;
    below = h.below;
    instances = all_set Fits s.instances i x k h.instances;
  }

  pub instance_there : (s : State) → IsFittingState m s → (i : ℕ) (x : Instance) → slice_get s.instances i ≡ Some x
      → FitsStatus (function_at m x.coroutine) x.status
  instance_there s h i x e = all_where Fits s.instances h.instances i x e

  pub memory_set : (s : State) → IsFittingState m s → (memory : List MemoryBlock) → HaveBytes memory
      → IsFittingState m (with_memory s memory)
  memory_set s h memory k = record { memory = k; top = h.top; below = h.below; instances = h.instances }

  pub settled_fits : (s : State) → IsFittingState m s → (w : Work) → AreFitting (function_at m s.top.func) w.values
      → HaveBytes w.world.memory → IsFittingState m (settled s w)
  settled_fits s h w k l = record { memory = l; top = k; below = h.below; instances = h.instances }

  pub gives_fits : (s : State) → IsFittingState m s → (result : Option ℕ) (v : Value)
      → ((n : ℕ) → result ≡ Some n → FitsKind (value_kind (function_at m s.top.func) n) v)
      → IsFittingState m (gives s result v)
  gives_fits s h result v k = record {
    memory = h.memory;
    top = result_fits (function_at m s.top.func) s.top.values result v h.top k;
    below = h.below;
    instances = h.instances;
  }

  pub next_fits : (s : State) → IsFittingState m s → IsFittingState m (next s)
  next_fits s h = record { memory = h.memory; top = h.top; below = h.below; instances = h.instances }

  -- the slots and marks of the topmost activation are nothing to it
  pub slots_set : (s : State) → IsFittingState m s → (slots : List Slot) → IsFittingState m (with_slots s slots)
  slots_set s h slots = record { memory = h.memory; top = h.top; below = h.below; instances = h.instances }

  pub left_set : (s : State) → IsFittingState m s → (b : Bool) → IsFittingState m (with_left s b)
  left_set s h b = record { memory = h.memory; top = h.top; below = h.below; instances = h.instances }

  -- ---- a block is entered

  pub entered : (g : Given) → g.code ≡ m → KeepsAllTypes m → (s : State) → IsFittingState m s → (label : ℕ)
      → IsFittingState m (enter_block g s label)
  entered g code rules s h label = record {
    memory = h.memory;
    top = subst (λ (k : Module). AreFitting (function_at m s.top.func)
        (values_in k
        (slice_get (function_at k s.top.func).blocks (position_of (function_at k s.top.func) label))
        (label_of (slice_get (function_at k s.top.func).blocks s.top.block)) s.top.values)) (sym code)
        (block_fits m (function_at m s.top.func) (position_of (function_at m s.top.func) label)
        (label_of (slice_get (function_at m s.top.func).blocks s.top.block)) s.top.values (rules s.top.func) h.top);
    below = h.below;
    instances = h.instances;
  }

  -- ---- calls

  -- an activation comes on top, to which the one below waits
  pub pushed : (s : State) → IsFittingState m s → (a : Activation) → AreFitting (function_at m a.func) a.values
      → GoesTo m a.func a.result (function_at m s.top.func) → IsFittingState m (push s a)
  pushed s h a k goes = record {
    memory = h.memory;
    top = k;
    below = (goes, h.top, h.below);
    instances = h.instances;
  }

  pub called_fits : (s : State) → IsFittingState m s → KeepsAllTypes m → (func : ℕ) (args : List Value)
      (result : Option ℕ) (mode : Mode) → FitParams (function_at m func).params args
      → GoesTo m func result (function_at m s.top.func)
      → IsFittingState m (push s (called m func args result mode))
  called_fits s h rules func args result mode k goes =
      pushed s h (called m func args result mode) (entry_fits m (function_at m func) (rules func) args k) goes

  -- what is pushed for no name
  pub no_result : (func : ℕ) (f : Function) → GoesTo m func None f
  no_result func f = λ n e v fit. absurd (cc)

  -- ---- returns

  pub returned_fits : (s : State) → IsFittingState m s → (v : Option Value)
      → FitsResult (function_at m s.top.func).result (unwrap_or v Value.Poison) → StaysFitting m (return s v)
  returned_fits s h v fit = on s.below refl
    where
      memory : HaveBytes (without_slots s.world.memory s.top.slots)
      memory = without_has s.world.memory s.top.slots h.memory

      last : (r : Result Outcome Cause)
          → StaysFitting m (and_then r (λ outcome. Ok (record (returned s) { outcome = outcome })))
      last (Err cause) = tt
      last (Ok outcome) = record { memory = memory; top = h.top; below = h.below; instances = h.instances }

      on : (below : List Activation) → s.below ≡ below → StaysFitting m (pop (returned s) v below)
      on [] e = last (outcome_of v)
      on (a ∷ below) e =
          let k : AreFittingBelow m s.top.func s.top.result (a ∷ below) =
          subst (AreFittingBelow m s.top.func s.top.result) e h.below in
          record {
            memory = memory;
            top = result_fits (function_at m a.func) a.values s.top.result (unwrap_or v Value.Poison) k.1
                (λ n en. k.0 n en (unwrap_or v Value.Poison) fit);
            below = k.2;
            instances = h.instances;
          }

  -- ---- a new slot

  pub placed : (g : Given) (s : State) → IsFittingState m s → (slot : Slot) → IsFittingState m (new_slot g s slot)
  placed g s h slot = on (own_instance s) (λ i x e. (own_there s i x e).1)
    where
      late : (t : Bool) → IsFittingState m (if t then with_memory s (killed s.world.memory slot.block) else s)
      late true = memory_set s h (killed s.world.memory slot.block) (killed_has s.world.memory slot.block h.memory)
      late false = h

      by : (i : ℕ) (x : Instance) → slice_get s.instances i ≡ Some x → (t : Bool)
          → IsFittingState m (with_new_slots (own_facts g s).ramp_slots (Some (i, x))
          (if t then with_memory s (killed s.world.memory slot.block) else s) (slot ∷ []))
      by i x e t = record {
        memory = (late t).memory;
        top = on_top t;
        below = on_below t;
        instances = on_instances t;
      }
        where
          y : Instance
          y = record x {
            slots = filter (λ slot. not (is_among (own_facts g s).ramp_slots slot)) (slot ∷ []) ++ x.slots;
          }

          on_top : (t : Bool) → AreFitting (function_at m (if t then with_memory s (killed s.world.memory slot.block)
              else s).top.func)
              (if t then with_memory s (killed s.world.memory slot.block) else s).top.values
          on_top true = h.top
          on_top false = h.top

          on_below : (t : Bool) → AreFittingBelow m (if t then with_memory s (killed s.world.memory slot.block) else
              s).top.func
              (if t then with_memory s (killed s.world.memory slot.block) else s).top.result
              (if t then with_memory s (killed s.world.memory slot.block) else s).below
          on_below true = h.below
          on_below false = h.below

          on_instances : (t : Bool) → FitInstances m (slice_set (if t then with_memory s
              (killed s.world.memory slot.block) else s).instances i
              (record x {
                slots = filter (λ slot. not (is_among (own_facts g s).ramp_slots slot)) (slot ∷ []) ++ x.slots;
              }))
          on_instances true = all_set Fits s.instances i y (instance_there s h i x e) h.instances
          on_instances false = all_set Fits s.instances i y (instance_there s h i x e) h.instances

      on : (o : Option (ℕ × Instance)) → ((i : ℕ) (x : Instance) → o ≡ Some (i, x) → slice_get s.instances i ≡ Some x)
          → IsFittingState m (with_new_slots (own_facts g s).ramp_slots o
          (kill_late (own_facts g s).ramp_slots o s slot) (slot ∷ []))
      on None is = slots_set s h (slot ∷ s.top.slots)
      on (Some p) is = by p.0 p.1 (is p.0 p.1 refl) (is_over p.1 && not (is_among (own_facts g s).ramp_slots slot))

  -- ---- an instance changes, but for its status

  pub changed_own : (s : State) → IsFittingState m s → (g : Instance → Instance)
      → ((x : Instance) → FitsStatus (function_at m x.coroutine) x.status
      → FitsStatus (function_at m (g x).coroutine) (g x).status) → (o : Option (ℕ × Instance))
      → ((i : ℕ) (x : Instance) → o ≡ Some (i, x) → slice_get s.instances i ≡ Some x)
      → IsFittingState m (change_own s g o)
  changed_own s h g k None is = h
  changed_own s h g k (Some p) is = instance_set s h p.0 (g p.1) (k p.1 (instance_there s h p.0 p.1 (is p.0 p.1 refl)))

  -- ---- a deallocation

  pub freed_fits : (s : State) → IsFittingState m s → (v : Value)
      → ((i : ℕ) (x : Instance) → instance_at s.instances v ≡ Some (i, x) → slice_get s.instances i ≡ Some x)
      → StaysFitting m (deallocate s v)
  freed_fits s h v found = on (instance_at s.instances v) found
    where
      by : (t : State) → IsFittingState m t
          → StaysFitting m (and_then (deallocated t.world.memory v) (λ memory. Ok (next (with_memory t memory))))
      by t k = last (deallocated t.world.memory v) (deallocated_has t.world.memory v k.memory)
        where
          last : (r : Result (List MemoryBlock) Cause) → GivesBytes r
              → StaysFitting m (and_then r (λ memory. Ok (next (with_memory t memory))))
          last (Err cause) b = tt
          last (Ok memory) b = next_fits (with_memory t memory) (memory_set t k memory b)

      let_fits : (i : ℕ) (x : Instance) → slice_get s.instances i ≡ Some x → IsFittingState m (let_go s i x)
      let_fits i x e = memory_set (with_instance s i (record x { freed = true }))
          (instance_set s h i (record x { freed = true }) (instance_there s h i x e))
          (disown (without_slots s.world.memory x.slots) x.block)
          (disowned_has (without_slots s.world.memory x.slots) x.block (without_has s.world.memory x.slots h.memory))

      freed : (i : ℕ) (x : Instance) → slice_get s.instances i ≡ Some x → (b : Bool)
          → StaysFitting m (and_then (deallocated (if b then let_go s i x else s).world.memory v)
          (λ memory. Ok (next (with_memory (if b then let_go s i x else s) memory))))
      freed i x e true = by (let_go s i x) (let_fits i x e)
      freed i x e false = by s h

      on : (o : Option (ℕ × Instance)) → ((i : ℕ) (x : Instance) → o ≡ Some (i, x) → slice_get s.instances i ≡ Some x)
          → StaysFitting m (and_then (deallocated (if_let_go s o).world.memory v)
          (λ memory. Ok (next (with_memory (if_let_go s o) memory))))
      on None is = by s h
      on (Some p) is = freed p.0 p.1 (is p.0 p.1 refl) (may_be_freed p.1)

  -- ---- a branch

  pub went : (g : Given) → g.code ≡ m → KeepsAllTypes m → (s : State) → IsFittingState m s → (label : ℕ)
      → StaysFitting m (go_to g s label)
  went g code rules s h label = on (left_windows g s label)
    where
      by : (i : ℕ) (x : Instance) → (b : Bool)
          → StaysFitting m (ok_if b Cause.State (enter_block g (with_left (with_status s i x Status.Running) false)
          label))
      by i x false = tt
      by i x true = entered g code rules (with_left (with_status s i x Status.Running) false)
          (left_set (with_status s i x Status.Running) (instance_set s h i (record x { status = Status.Running }) tt)
          false)
          label

      leaving : (ws : List Window) (o : Option (ℕ × Instance))
          → StaysFitting m (and_then (found Cause.State o) (λ (i, x).
          ok_if (list_all (may_leave (length s.below) x) ws) Cause.State
          (enter_block g (with_left (with_status s i x Status.Running) false) label)))
      leaving ws None = tt
      leaving ws (Some p) = by p.0 p.1 (list_all (may_leave (length s.below) p.1) ws)

      on : (ws : List Window) → StaysFitting m (branch_leaving g s label ws)
      on [] = entered g code rules s h label
      on (w ∷ ws) = leaving (w ∷ ws) (own_instance s)

  -- ---- a save

  -- whatever comes behind it keeps it
  pub saved : (s : State) → IsFittingState m s
      → ((i : ℕ) (x : Instance) → s.top.instance ≡ Some i → slice_get s.instances i ≡ Some x → x.coroutine ≡ s.top.func)
      → (save u : Point) (go : State → Result State Cause)
      → ((t : State) → IsFittingState m t → t.top.func ≡ s.top.func → StaysFitting m (go t))
      → StaysFitting m (and_then (save_for s save u) go)
  saved s h own save u go kept = on (own_instance s) (own_there s)
    where
      by : (i : ℕ) (x : Instance) → s.top.instance ≡ Some i → slice_get s.instances i ≡ Some x → (b : Bool)
          → StaysFitting m (and_then (ok_if b Cause.State (with_left (with_instance s i (record x {
            status = Status.Suspended u s.top.values;
            last_save = Some (record { depth = length s.below; save = save });
          })) true)) go)
      by i x ei ex false = tt
      by i x ei ex true = kept (with_left (with_instance s i (record x {
        status = Status.Suspended u s.top.values;
        last_save = Some (record { depth = length s.below; save = save });
      })) true) (left_set (with_instance s i (record x {
        status = Status.Suspended u s.top.values;
        last_save = Some (record { depth = length s.below; save = save });
      })) (instance_set s h i (record x {
        status = Status.Suspended u s.top.values;
        last_save = Some (record { depth = length s.below; save = save });
      }) (subst (λ (c : ℕ). AreFitting (function_at m c) s.top.values) (sym (own i x ei ex)) h.top)) true) refl

      on : (o : Option (ℕ × Instance)) → ((i : ℕ) (x : Instance) → o ≡ Some (i, x)
          → (s.top.instance ≡ Some i) × (slice_get s.instances i ≡ Some x))
          → StaysFitting m (and_then (and_then (found Cause.State o) (λ (i, x). ok_if (not x.freed) Cause.State
          (with_left (with_instance s i (record x {
            status = Status.Suspended u s.top.values;
            last_save = Some (record { depth = length s.below; save = save });
          })) true))) go)
      on None is = tt
      on (Some p) is = let r = is p.0 p.1 refl in by p.0 p.1 r.0 r.1 (not p.1.freed)
