-- A resume, begin and the end keep states where pointers' types have pointers.
use Rattle.std.proofs.Common.{◌≡◌, ℕ, Bool, true, false, not, List, [], ◌∷◌, ◌++◌, length, Option, Some, None}
use Rattle.std.proofs.Common.{Result, Ok, Err, refl}
use Rattle.std.specs.Prelude.{filter, is_none, is_some, slice_get}
use Rattle.pass_frames_proof.specs.ir_base.declared.cause.Cause.{Cause}
use Rattle.pass_frames_proof.specs.ir_model.Names.{function_at}
use Rattle.pass_frames_proof.specs.ir_model.declared.module.Module.{Module}
use Rattle.pass_frames_proof.specs.ir_paths.declared.point.Point.{Point}
use Rattle.pass_frames_meaning.proofs.pointers.Parts.{entered, gives_fits, instance_set, memory_set, no_result, pushed}
use Rattle.pass_frames_meaning.proofs.pointers.Values.{address_points}
use Rattle.pass_frames_meaning.specs.Pointers.{ArePointing, IsAddress, IsPointingState, PointsAsleep, StaysPointing}
use Rattle.pass_frames_proof.specs.rule_values.Kinds.{value_kind}
use Rattle.pass_frames_proof.specs.run_framed.Framed.{FramedGiven, at_point, enter_after, with_mode}
use Rattle.pass_renewed_meaning.proofs.run_hooks.alive.Parts.{all_append}
use Rattle.pass_renewed_meaning.proofs.run_hooks.alive.Places.{own_there}
use Rattle.pass_frames_proof.specs.run_memory.Memory.{own}
use Rattle.pass_frames_proof.specs.run_memory.declared.block.Kind.{Kind as BlockKind}
use Rattle.pass_frames_proof.specs.run_memory.declared.block.MemoryBlock.{MemoryBlock}
use Rattle.pass_frames_proof.specs.run_memory.declared.pointer.Value.{Value}
use Rattle.pass_frames_proof.specs.run_source.Source.{begin, begin_at, begun, change_own, finish, is_among, new_instance}
use Rattle.pass_frames_proof.specs.run_source.Source.{push, resumed, slots_of}
use Rattle.pass_frames_proof.specs.run_source.State.{gives, own_facts, own_frame, own_instance, with_instance, with_memory, with_status}
use Rattle.pass_frames_proof.specs.run_source.declared.state.Instance.{Instance}
use Rattle.pass_frames_proof.specs.run_source.declared.state.Mode.{Mode}
use Rattle.pass_frames_proof.specs.run_source.declared.state.State.{State}
use Rattle.pass_frames_proof.specs.run_source.declared.state.Status.{Status}
use Rattle.pass_frames_proof.specs.run_source_tables.Given.{Given}
use Rattle.pass_frames_proof.specs.run_step.Results.{and_then, found, ok_if}
use Rattle.pass_frames_proof.specs.run_step.Step.{block_of, without_slots}
use Rattle.pass_frames_proof.specs.run_step.Values.{Env}
use Rattle.pass_renewed_meaning.proofs.run_types.Parts.{all_set}
use Rattle.pass_renewed_meaning.specs.run_types.Rules.{KeepsAllTypes}

-- a value that leads to a block is a pointer
block_address : (v : Value) → is_some (block_of v) ≡ true → IsAddress v
block_address (Value.Ptr p) e = tt
block_address Value.Poison e = tt
block_address (Value.Int x) e = absurd (cc)

-- ---- changes of the topmost activation

module _ (m : Module) where
  pub mode_set : (s : State) → IsPointingState m s → (mode : Mode) → IsPointingState m (with_mode s mode)
  mode_set s h mode = record { top = h.top; below = h.below; instances = h.instances }

  pub point_set : (s : State) → IsPointingState m s → (p : Point) → IsPointingState m (at_point s p)
  point_set s h p = record { top = h.top; below = h.below; instances = h.instances }

  pub entering : (g : FramedGiven) → g.given.code ≡ m → KeepsAllTypes m → (s : State) → IsPointingState m s
      → (from label : ℕ) (o : Option Point) → IsPointingState m (enter_after g s from label o)
  entering g code rules s h from label (Some p) =
      point_set (with_mode s (Mode.Entering from label)) (mode_set s h (Mode.Entering from label)) p
  entering g code rules s h from label None =
      entered m g.given code rules (at_point (with_mode s Mode.Resumed) (record { block = from; at = 0 }))
      (point_set (with_mode s Mode.Resumed) (mode_set s h Mode.Resumed) (record { block = from; at = 0 })) label

  -- an activation of an instance comes on top
  pub resumed_fits : (s : State) → IsPointingState m s → (i : ℕ) (x : Instance) (suspend : Point) (values : Env)
      → ArePointing (function_at m x.coroutine) values
      → IsPointingState m (push (with_status s i x Status.Running) (resumed i x suspend values))
  resumed_fits s h i x suspend values k =
      pushed m (with_status s i x Status.Running) (instance_set m s h i (record x { status = Status.Running }) tt)
      (resumed i x suspend values) k (no_result m x.coroutine (function_at m s.top.func))

  -- ---- begin

  pub begun_fits : (g : Given) (s : State) → IsPointingState m s → (block offset : ℕ)
      → IsPointingState m (begun g s block offset)
  begun_fits g s h block offset = record {
    top = h.top;
    below = h.below;
    instances = all_set (λ (x : Instance). PointsAsleep (function_at m x.coroutine) x.status)
        (s.instances ++ new_instance s.top.func block offset ∷ []) (length s.instances)
        (record (new_instance s.top.func block offset) {
          slots = filter (λ slot. not (is_among (own_facts g s).ramp_slots slot)) s.top.slots ++ [];
        }) tt
        (all_append (λ (x : Instance). PointsAsleep (function_at m x.coroutine) x.status) s.instances
        (new_instance s.top.func block offset ∷ []) h.instances (tt, tt));
  }

  begin_at_fits : (g : Given) (s : State) → IsPointingState m s → (memory : Value) (kind : BlockKind)
      (result : Option ℕ) → StaysPointing m (and_then (begin_at g s memory kind) (λ t. Ok (gives t result memory)))
  begin_at_fits g s h memory kind result = on (own s.world.memory memory (own_frame g s).size kind)
    where
      last : (blocks : List MemoryBlock) → IsPointingState m (with_memory s blocks) → (o : Option ℕ)
          → (is_some o ≡ true → IsAddress memory)
          → StaysPointing m (and_then (and_then (found Cause.Begin o) (λ b. Ok (begun g (with_memory s blocks) b 0)))
          (λ t. Ok (gives t result memory)))
      last blocks j None a = tt
      last blocks j (Some b) a = gives_fits m (begun g (with_memory s blocks) b 0)
          (begun_fits g (with_memory s blocks) j b 0) result memory
          (λ n e. address_points (value_kind (function_at m s.top.func) n) memory (a refl))

      on : (r : Result (List MemoryBlock) Cause)
          → StaysPointing m (and_then (and_then r (λ blocks. and_then (found Cause.Begin (block_of memory))
          (λ b. Ok (begun g (with_memory s blocks) b 0)))) (λ t. Ok (gives t result memory)))
      on (Err cause) = tt
      on (Ok blocks) = last blocks (memory_set m s h blocks) (block_of memory) (block_address memory)

  pub begin_fits : (g : Given) (s : State) → IsPointingState m s → (result : Option ℕ) (memory : Value)
      → StaysPointing m (begin g s result memory)
  begin_fits g s h result memory = on (is_none s.top.instance)
    where
      on : (b : Bool) → StaysPointing m (and_then (ok_if b Cause.Begin s) (λ s.
          and_then (begin_at g s memory BlockKind.Allocator) (λ s. Ok (gives s result memory))))
      on true = begin_at_fits g s h memory BlockKind.Allocator result
      on false = tt

  -- ---- the end

  pub finished_fits : (s : State) → IsPointingState m s → IsPointingState m (finish s)
  finished_fits s h = on (own_instance s) (λ i x e. (own_there s i x e).1)
    where
      on : (o : Option (ℕ × Instance)) → ((i : ℕ) (x : Instance) → o ≡ Some (i, x) → slice_get s.instances i ≡ Some x)
          → IsPointingState m (with_memory (change_own s (λ x. record x { status = Status.Finished }) o)
          (without_slots s.world.memory (slots_of o)))
      on None is = memory_set m s h s.world.memory
      on (Some p) is = memory_set m (with_instance s p.0 (record p.1 { status = Status.Finished }))
          (instance_set m s h p.0 (record p.1 { status = Status.Finished }) tt)
          (without_slots s.world.memory p.1.slots)

  pub finish_top : (s : State) → (finish s).top ≡ s.top
  finish_top s = on (own_instance s)
    where
      on : (o : Option (ℕ × Instance)) → (with_memory (change_own s (λ x. record x { status = Status.Finished }) o)
          (without_slots s.world.memory (slots_of o))).top ≡ s.top
      on None = refl
      on (Some p) = refl
