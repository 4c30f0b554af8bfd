-- A resume, begin, the end and frames that are given keep states in which all values fit.
use Rattle.std.proofs.Common.{◌≡◌, ℕ, Bool, true, false, not, List, [], ◌∷◌, ◌++◌, length, ◌&&◌, Option, Some, None}
use Rattle.std.proofs.Common.{Result, Ok, Err, refl}
use Rattle.std.specs.Prelude.{filter, if◌then◌else◌, is_none, slice_get, ◌==◌}
use Rattle.run_hooks.specs.ir_base.declared.cause.Cause.{Cause}
use Rattle.run_hooks.specs.ir_model.Names.{function_at}
use Rattle.run_hooks.specs.ir_model.declared.module.Module.{Module}
use Rattle.run_hooks.specs.ir_paths.declared.point.Point.{Point}
use Rattle.run_hooks.specs.run_framed.Framed.{FramedGiven, are_finished_at, at_point, begin_given, begin_given_at, begin_in_block}
use Rattle.run_hooks.specs.run_framed.Framed.{begin_in_frame, disown_given, enter_after, frame_around, has_room, has_size}
use Rattle.run_hooks.specs.run_framed.Framed.{is_stack_block, with_mode}
use Rattle.run_hooks.proofs.alive.Parts.{all_append}
use Rattle.run_hooks.specs.run_memory.Memory.{disown, own, start}
use Rattle.run_hooks.specs.run_memory.declared.block.Kind.{Kind as BlockKind}
use Rattle.run_hooks.specs.run_memory.declared.block.MemoryBlock.{MemoryBlock}
use Rattle.run_hooks.specs.run_memory.declared.pointer.Offset.{Offset}
use Rattle.run_hooks.specs.run_memory.declared.pointer.Pointer.{Pointer}
use Rattle.run_hooks.specs.run_memory.declared.pointer.Value.{Value}
use Rattle.run_hooks.specs.run_source.Source.{begin, begin_at, begun, change_own, finish, is_among, is_live_at, new_instance}
use Rattle.run_hooks.specs.run_source.Source.{push, resumed, slots_of}
use Rattle.run_hooks.specs.run_source.State.{gives, own_facts, own_frame, own_instance, with_instance, with_memory, with_status}
use Rattle.run_hooks.specs.run_source.declared.state.Instance.{Instance}
use Rattle.run_hooks.specs.run_source.declared.state.Mode.{Mode}
use Rattle.run_hooks.specs.run_source.declared.state.State.{State}
use Rattle.run_hooks.specs.run_source.declared.state.Status.{Status}
use Rattle.run_hooks.specs.run_source_tables.Given.{Given}
use Rattle.run_hooks.specs.run_step.Results.{and_then, found, ok_if}
use Rattle.run_hooks.specs.run_step.Step.{block_of, without_slots}
use Rattle.run_hooks.specs.run_step.Values.{Env}
use Rattle.run_types.proofs.Bytes.{GivesBytes, disowned_has, own_has, without_has}
use Rattle.run_hooks.proofs.alive.Places.{own_there}
use Rattle.run_types.proofs.Parts.{all_set, entered, gives_fits, instance_set, memory_set, no_result, pushed}
use Rattle.run_types.specs.Fitting.{AreFitting}
use Rattle.run_types.specs.Rules.{KeepsAllTypes}
use Rattle.run_types.specs.States.{FitsStatus, IsFittingState, StaysFitting, TakesAny}

-- ---- changes of the topmost activation

module _ (m : Module) where
  pub mode_set : (s : State) → IsFittingState m s → (mode : Mode) → IsFittingState m (with_mode s mode)
  mode_set s h mode = record { memory = h.memory; top = h.top; below = h.below; instances = h.instances }

  pub point_set : (s : State) → IsFittingState m s → (p : Point) → IsFittingState m (at_point s p)
  point_set s h p = record { memory = h.memory; top = h.top; below = h.below; instances = h.instances }

  pub entering : (g : FramedGiven) → g.given.code ≡ m → KeepsAllTypes m → (s : State) → IsFittingState m s
      → (from label : ℕ) (o : Option Point) → IsFittingState m (enter_after g s from label o)
  entering g code rules s h from label (Some p) =
      point_set (with_mode s (Mode.Entering from label)) (mode_set s h (Mode.Entering from label)) p
  entering g code rules s h from label None =
      entered m g.given code rules (at_point (with_mode s Mode.Resumed) (record { block = from; at = 0 }))
      (point_set (with_mode s Mode.Resumed) (mode_set s h Mode.Resumed) (record { block = from; at = 0 })) label

  -- an activation of an instance comes on top
  pub resumed_fits : (s : State) → IsFittingState m s → (i : ℕ) (x : Instance) (suspend : Point) (values : Env)
      → AreFitting (function_at m x.coroutine) values
      → IsFittingState m (push (with_status s i x Status.Running) (resumed i x suspend values))
  resumed_fits s h i x suspend values k =
      pushed m (with_status s i x Status.Running) (instance_set m s h i (record x { status = Status.Running }) tt)
      (resumed i x suspend values) k (no_result m x.coroutine (function_at m s.top.func))

  -- ---- begin

  pub begun_fits : (g : Given) (s : State) → IsFittingState m s → (block offset : ℕ)
      → IsFittingState m (begun g s block offset)
  begun_fits g s h block offset = record {
    memory = h.memory;
    top = h.top;
    below = h.below;
    instances = all_set (λ (x : Instance). FitsStatus (function_at m x.coroutine) x.status)
        (s.instances ++ new_instance s.top.func block offset ∷ []) (length s.instances)
        (record (new_instance s.top.func block offset) {
          slots = filter (λ slot. not (is_among (own_facts g s).ramp_slots slot)) s.top.slots ++ [];
        }) tt
        (all_append (λ (x : Instance). FitsStatus (function_at m x.coroutine) x.status) s.instances
        (new_instance s.top.func block offset ∷ []) h.instances (tt, tt));
  }

  pub begin_at_fits : (g : Given) (s : State) → IsFittingState m s → (memory : Value) (kind : BlockKind)
      (result : Option ℕ) (v : Value) → TakesAny (function_at m s.top.func) result
      → StaysFitting m (and_then (begin_at g s memory kind) (λ t. Ok (gives t result v)))
  begin_at_fits g s h memory kind result v any =
      on (own s.world.memory memory (own_frame g s).size kind)
      (own_has s.world.memory memory (own_frame g s).size kind h.memory)
    where
      last : (blocks : List MemoryBlock) → IsFittingState m (with_memory s blocks) → (o : Option ℕ)
          → StaysFitting m (and_then (and_then (found Cause.Begin o) (λ b. Ok (begun g (with_memory s blocks) b 0)))
          (λ t. Ok (gives t result v)))
      last blocks j None = tt
      last blocks j (Some b) = gives_fits m (begun g (with_memory s blocks) b 0)
          (begun_fits g (with_memory s blocks) j b 0) result v (λ n e. any n e v)

      on : (r : Result (List MemoryBlock) Cause) → GivesBytes r
          → StaysFitting m (and_then (and_then r (λ blocks. and_then (found Cause.Begin (block_of memory))
          (λ b. Ok (begun g (with_memory s blocks) b 0)))) (λ t. Ok (gives t result v)))
      on (Err cause) j = tt
      on (Ok blocks) j = last blocks (memory_set m s h blocks j) (block_of memory)

  pub begin_fits : (g : Given) (s : State) → IsFittingState m s → (result : Option ℕ) (memory : Value)
      → TakesAny (function_at m s.top.func) result → StaysFitting m (begin g s result memory)
  begin_fits g s h result memory any = on (is_none s.top.instance)
    where
      on : (b : Bool) → StaysFitting m (and_then (ok_if b Cause.Begin s) (λ s.
          and_then (begin_at g s memory BlockKind.Allocator) (λ s. Ok (gives s result memory))))
      on true = begin_at_fits g s h memory BlockKind.Allocator result memory any
      on false = tt

  -- ---- the end

  pub finished_fits : (s : State) → IsFittingState m s → IsFittingState m (finish s)
  finished_fits s h = on (own_instance s) (λ i x e. (own_there s i x e).1)
    where
      on : (o : Option (ℕ × Instance)) → ((i : ℕ) (x : Instance) → o ≡ Some (i, x) → slice_get s.instances i ≡ Some x)
          → IsFittingState m (with_memory (change_own s (λ x. record x { status = Status.Finished }) o)
          (without_slots s.world.memory (slots_of o)))
      on None is = memory_set m s h s.world.memory h.memory
      on (Some p) is = memory_set m (with_instance s p.0 (record p.1 { status = Status.Finished }))
          (instance_set m s h p.0 (record p.1 { status = Status.Finished }) tt)
          (without_slots s.world.memory p.1.slots) (without_has s.world.memory p.1.slots h.memory)

  pub finish_top : (s : State) → (finish s).top ≡ s.top
  finish_top s = on (own_instance s)
    where
      on : (o : Option (ℕ × Instance)) → (with_memory (change_own s (λ x. record x { status = Status.Finished }) o)
          (without_slots s.world.memory (slots_of o))).top ≡ s.top
      on None = refl
      on (Some p) = refl

  -- ---- frames that are given

  pub disowned_fits : (s : State) → IsFittingState m s → (o : Option (ℕ × Instance))
      → IsFittingState m (disown_given s o)
  disowned_fits s h None = h
  disowned_fits s h (Some p) = on (is_stack_block s.world.memory p.1.block && (p.1.start == 0))
    where
      on : (b : Bool) → IsFittingState m (if b then with_memory s (disown s.world.memory p.1.block) else s)
      on true = memory_set m s h (disown s.world.memory p.1.block) (disowned_has s.world.memory p.1.block h.memory)
      on false = h

  pub disown_top : (s : State) (o : Option (ℕ × Instance)) → (disown_given s o).top ≡ s.top
  disown_top s None = refl
  disown_top s (Some p) = on (is_stack_block s.world.memory p.1.block && (p.1.start == 0))
    where
      on : (b : Bool) → (if b then with_memory s (disown s.world.memory p.1.block) else s).top ≡ s.top
      on true = refl
      on false = refl

  pub begin_given_fits : (g : FramedGiven) (s : State) → IsFittingState m s → (result : Option ℕ) (frame : Value)
      → TakesAny (function_at m s.top.func) result → StaysFitting m (begin_given g s result frame)
  begin_given_fits g s h result frame any = on (is_none s.top.instance && are_finished_at s.instances frame)
    where
      in_frame : (b : ℕ) (o : Offset) (t : Bool)
          → StaysFitting m (and_then (ok_if t Cause.Begin (begun g.given s b o.bits)) (λ s. Ok (gives s result frame)))
      in_frame b o false = tt
      in_frame b o true = gives_fits m (begun g.given s b o.bits) (begun_fits g.given s h b o.bits) result frame
          (λ n e. any n e frame)

      in_block : (b : ℕ) (o : Offset) (t : Bool)
          → StaysFitting m (and_then (and_then (ok_if t Cause.Begin s)
          (λ s. begin_at g.given s (Value.Ptr (Pointer.At b o)) BlockKind.Stack)) (λ s. Ok (gives s result frame)))
      in_block b o false = tt
      in_block b o true = begin_at_fits g.given s h (Value.Ptr (Pointer.At b o)) BlockKind.Stack result frame any

      either_way : (b : ℕ) (o : Offset) (t : Bool)
          → StaysFitting m (and_then (if t then begin_in_frame g s b o else begin_in_block g s b o)
          (λ s. Ok (gives s result frame)))
      either_way b o true = in_frame b o (is_live_at s.world.memory b)
      either_way b o false = in_block b o ((o.bits == 0) && has_size s.world.memory b (own_frame g.given s).size)

      at : (p : Value) → StaysFitting m (and_then (begin_given_at g s p) (λ s. Ok (gives s result frame)))
      at (Value.Ptr (Pointer.At b o)) =
          either_way b o (has_room g o.bits (own_frame g.given s).size (frame_around g s.instances b o.bits))
      at (Value.Ptr Pointer.Null) = tt
      at (Value.Ptr (Pointer.Func f)) = tt
      at Value.Poison = tt
      at (Value.Int w) = tt

      on : (t : Bool) → StaysFitting m (and_then (ok_if t Cause.Begin s) (λ s.
          and_then (begin_given_at g s frame) (λ s. Ok (gives s result frame))))
      on true = at frame
      on false = tt
