-- The hooks that make slots anew keep the frames of instances that aren't freed.
use Rattle.std.proofs.Common.{◌≡◌, ◌⊎◌, inl, inr, ◌+◌, ◌≤◌, ◌<◌, ℕ, Bool, true, false, not, List, [], ◌∷◌, ◌++◌, length}
use Rattle.std.proofs.Common.{Option, Some, None, Ok, refl, sym, ap, ◌∙◌, subst, ◌&&◌, ◌==◌, arith}
use Rattle.std.proofs.lemmas.Bool.{leb-true}
use Rattle.std.specs.Prelude.{if◌then◌else◌, is_none, is_some, nat_le, slice_get}
use Rattle.pass_frames_proof.specs.ir_base.declared.cause.Cause.{Cause}
use Rattle.pass_frames_proof.specs.ir_base.declared.outcome.Word.{Word}
use Rattle.pass_frames_proof.specs.ir_model.Names.{function_at}
use Rattle.pass_frames_proof.specs.ir_model.declared.module.Frame.{Frame}
use Rattle.pass_frames_proof.specs.ir_paths.declared.point.Point.{Point}
use Rattle.pass_frames_meaning.proofs.framed.Memory.{changed_held, moved_held, other_still, still_held}
use Rattle.pass_frames_meaning.proofs.framed.Steps.{instance_held, instance_still, steps_held}
use Rattle.pass_frames_meaning.specs.Framed.{AreFramesHeld, IsFrameHeld, IsHeldState, KeepsHeld, MarksNoFrame}
use Rattle.pass_frames_meaning.specs.Framed.{StaysHeld}
use Rattle.pass_frames_proof.specs.pass_kept_proof.Kept.{kept}
use Rattle.pass_frames_proof.specs.pass_renewed_proof.Renewed.{RenewedGiven, renew_after, renewed_from, renewed_slot, renewed_step}
use Rattle.pass_frames_proof.specs.pass_renewed_proof.Renewed.{with_life}
use Rattle.pass_renewed_meaning.proofs.run_hooks.Reached.{own_is}
use Rattle.pass_renewed_meaning.proofs.run_hooks.Steps.{renewed_steps, same_runs}
use Rattle.pass_renewed_meaning.specs.run_hooks.Hooks.{step_of}
use Rattle.pass_renewed_meaning.specs.run_hooks.Meanings.{renewed_hooks}
use Rattle.pass_frames_proof.specs.run_memory.Memory.{check, is_live, killed, killed_block, may_be_owned, own, owned_to, same_kind, start}
use Rattle.pass_frames_proof.specs.run_memory.Memory.{started, with_block}
use Rattle.pass_frames_proof.specs.run_memory.declared.block.Kind.{Kind}
use Rattle.pass_frames_proof.specs.run_memory.declared.block.MemoryBlock.{MemoryBlock}
use Rattle.pass_frames_proof.specs.run_memory.declared.pointer.Pointer.{Pointer}
use Rattle.pass_frames_proof.specs.run_memory.declared.pointer.Value.{Value}
use Rattle.run_slots.proofs.Keeping.{frame_apart}
use Rattle.run_slots.proofs.Meanings.{renewed_keeps_slots}
use Rattle.run_slots.proofs.Steps.{first_slotted}
use Rattle.run_slots.proofs.Times.{itself, more_back, more_last, same_there, with_there}
use Rattle.run_slots.specs.Slots.{HasNewSlot, IsSlottedState, once_if, times_on}
use Rattle.pass_frames_proof.specs.run_source.Source.{begin, begin_at, begun, change_own, finish, first_state, is_among, is_over}
use Rattle.pass_frames_proof.specs.run_source.Source.{kill_late}
use Rattle.pass_frames_proof.specs.run_source.Source.{new_instance, new_slot, push, resumed, slots_of, with_new_slots}
use Rattle.pass_frames_proof.specs.run_source.State.{function_of, gives, own_facts, own_frame, own_instance, with_memory, with_slots}
use Rattle.pass_frames_proof.specs.run_source.State.{with_status}
use Rattle.pass_frames_proof.specs.run_source.declared.state.Instance.{Instance}
use Rattle.pass_frames_proof.specs.run_source.declared.state.Mode.{Mode}
use Rattle.pass_frames_proof.specs.run_source.declared.state.State.{State}
use Rattle.pass_frames_proof.specs.run_source.declared.state.Status.{Status}
use Rattle.pass_frames_proof.specs.run_source_tables.Given.{Given, frame_of}
use Rattle.pass_frames_proof.specs.run_step.Results.{and_then, found, ok_if}
use Rattle.pass_frames_proof.specs.run_step.Runs.{iterate}
use Rattle.pass_frames_proof.specs.run_step.Step.{block_of, without_slots}
use Rattle.pass_frames_proof.specs.run_step.declared.world.Slot.{Slot}

-- entry of a label, after allocas
renews_held : (sizes : List Frame) (g : RenewedGiven) (s : State) (from label : ℕ) (o : Option Point)
    → IsHeldState sizes s → IsHeldState sizes (renew_after g s from label o)
renews_held sizes g s from label None h = h
renews_held sizes g s from label (Some p) h = h

-- ---- a slot is placed

-- no instance begins in a block
abbrev AreApart : State → ℕ → Type 0
AreApart s b = (i : ℕ) (x : Instance) → slice_get s.instances i ≡ Some x → x.block ≡ b → ⊥

new_apart : (s : State) (slot : Slot) → HasNewSlot s slot → AreApart s slot.block
new_apart s slot h i x e same =
    let one : once_if (slot.block == slot.block) ≡ 1 = ap once_if (itself slot.block) in
    frame_apart s.world.memory (λ n. once_if (slot.block == n) + times_on (s.top ∷ s.below) n) s.instances h.slotted i x
    e slot.block (omega (arith, one)) same

-- the block of the slot changes
block_held : (sizes : List Frame) (s : State) (b : ℕ) (f : MemoryBlock → MemoryBlock) → AreApart s b
    → IsHeldState sizes s → AreFramesHeld sizes (with_block s.world.memory b f) s.instances
block_held sizes s b f apart h =
    moved_held sizes s.world.memory (with_block s.world.memory b f) s.instances h (λ i x e u r.
    other_still s.world.memory b f x.block r.block (apart i x e) r.there)

slot_held : (g : Given) (s : State) (slot : Slot) → AreApart s slot.block → IsHeldState g.sizes s
    → IsHeldState g.sizes (new_slot g s slot)
slot_held g s slot apart h = on (own_instance s) (λ i x e. own_is s i x e)
  where
    by : (i : ℕ) (x : Instance) → slice_get s.instances i ≡ Some x → (b : Bool)
        → IsHeldState g.sizes (with_new_slots (own_facts g s).ramp_slots (Some (i, x))
        (if b then with_memory s (killed s.world.memory slot.block) else s) (slot ∷ []))
    by i x e true = changed_held g.sizes (killed s.world.memory slot.block) s.instances
        (block_held g.sizes s slot.block killed_block apart h) i x _ e refl refl refl
    by i x e false = changed_held g.sizes s.world.memory s.instances h i x _ e refl refl refl

    on : (o : Option (ℕ × Instance)) → ((i : ℕ) (x : Instance) → o ≡ Some (i, x) → slice_get s.instances i ≡ Some x)
        → IsHeldState g.sizes (with_new_slots (own_facts g s).ramp_slots o
        (kill_late (own_facts g s).ramp_slots o s slot) (slot ∷ []))
    on None is = h
    on (Some (i, x)) is = by i x (is i x refl) (is_over x && not (is_among (own_facts g s).ramp_slots slot))

place_held : (g : RenewedGiven) (s : State) (slot : Slot) (mode : Mode) → AreApart s slot.block
    → IsHeldState g.given.sizes s → IsHeldState g.given.sizes (renewed_slot g s slot mode)
place_held g s slot (Mode.Entering from label) apart h =
    renews_held g.given.sizes g (with_slots s (slot ∷ s.top.slots)) from label
    (renewed_from (g.flags s.top.func) (function_of g.given s) s.top.at) h
place_held g s slot Mode.Plain apart h = slot_held g.given s slot apart h
place_held g s slot Mode.Ramp apart h = slot_held g.given s slot apart h
place_held g s slot Mode.Resumed apart h = slot_held g.given s slot apart h
place_held g s slot (Mode.GivenRamp frame) apart h = slot_held g.given s slot apart h

life_held : (g : RenewedGiven) (s : State) (slot : Slot) (mode : Mode) → AreApart s slot.block
    → IsHeldState g.given.sizes s → IsHeldState g.given.sizes (renewed_slot g (with_life g s slot) slot mode)
life_held g s slot mode apart h = on (g.flags s.top.func slot.alloca)
  where
    on : (b : Bool) → IsHeldState g.given.sizes (renewed_slot g
        (if b then with_memory s (start s.world.memory slot.block) else s) slot mode)
    on true = place_held g (with_memory s (start s.world.memory slot.block)) slot mode apart
        (block_held g.given.sizes s slot.block started apart h)
    on false = place_held g s slot mode apart h

-- ---- begin

-- a block in which an instance may begin
record IsFreeBlock (m : List MemoryBlock) (b size : ℕ) : Type 0 where
  pub block : MemoryBlock
  pub there : slice_get m b ≡ Some block
  pub live : is_live block.life ≡ true
  pub free : is_some block.owned ≡ false
  pub fits : size ≤ block.size

free_block : (m : List MemoryBlock) (b size : ℕ) → may_be_owned Kind.Allocator size (slice_get m b) ≡ true
    → IsFreeBlock m b size
free_block m b size e = on (slice_get m b) refl e
  where
    by : (z : MemoryBlock) → slice_get m b ≡ Some z → (c d f g : Bool) → is_live z.life ≡ c → is_some z.owned ≡ f
        → nat_le size z.size ≡ g → (((c && d) && not f) && g) ≡ true → IsFreeBlock m b size
    by z there true true false true live free fits k =
        record { block = z; there = there; live = live; free = free; fits = leb-true size z.size fits }
    by z there true true false false live free fits k = absurd (cc)
    by z there true true true g live free fits k = absurd (cc)
    by z there true false f g live free fits k = absurd (cc)
    by z there false d f g live free fits k = absurd (cc)

    on : (o : Option MemoryBlock) → slice_get m b ≡ o → may_be_owned Kind.Allocator size o ≡ true
        → IsFreeBlock m b size
    on None there k = absurd (cc)
    on (Some z) there k = by z there (is_live z.life) (same_kind z.kind Kind.Allocator) (is_some z.owned)
        (nat_le size z.size) refl refl refl k

module _ (g : Given) (s : State) (h : IsHeldState g.sizes s) where
  -- the block that it owns was no frame
  begun_held : (b : ℕ) → IsFreeBlock s.world.memory b (own_frame g s).size
      → IsHeldState g.sizes (begun g (with_memory s (with_block s.world.memory b (owned_to (own_frame g s).size))) b 0)
  begun_held b f =
      changed_held g.sizes (with_block s.world.memory b (owned_to (own_frame g s).size))
      (s.instances ++ new_instance s.top.func b 0 ∷ []) more (length s.instances) (new_instance s.top.func b 0) _
      (more_last s.instances (new_instance s.top.func b 0)) refl refl refl
    where
      old : (i : ℕ) (x : Instance) → slice_get s.instances i ≡ Some x → x.freed ≡ false → x.block ≡ b → ⊥
      old i x e u same =
          let r = h i x e u in
          let k : r.block ≡ f.block = same_there (slice_get s.world.memory b) r.block f.block
          (subst (λ (n : ℕ). slice_get s.world.memory n ≡ Some r.block) same r.there) f.there in
          let l : is_some r.block.owned ≡ true = ap is_some r.owned in
          let o : is_some r.block.owned ≡ false = ap (λ (z : MemoryBlock). is_some z.owned) k ∙ f.free in
          cc

      more : AreFramesHeld g.sizes (with_block s.world.memory b (owned_to (own_frame g s).size))
          (s.instances ++ new_instance s.top.func b 0 ∷ [])
      more i x e u = on (more_back s.instances (new_instance s.top.func b 0) i x e)
        where
          on : (slice_get s.instances i ≡ Some x) ⊎ ((i ≡ length s.instances) × (new_instance s.top.func b 0 ≡ x))
              → IsFrameHeld (with_block s.world.memory b (owned_to (own_frame g s).size))
              (frame_of g.sizes x.coroutine).size x
          on (inl d) =
              let r = h i x d u in
              still_held (frame_of g.sizes x.coroutine).size s.world.memory
              (with_block s.world.memory b (owned_to (own_frame g s).size)) x r
              (other_still s.world.memory b (owned_to (own_frame g s).size) x.block r.block (old i x d u) r.there)
          on (inr d) = subst (λ (y : Instance). IsFrameHeld (with_block s.world.memory b
              (owned_to (own_frame g s).size)) (frame_of g.sizes y.coroutine).size y) d.1 (record {
                block = owned_to (own_frame g s).size f.block;
                there = with_there s.world.memory b (owned_to (own_frame g s).size) f.block f.there;
                live = f.live;
                owned = refl;
                fits = f.fits;
              })

  begin_held : (result : Option ℕ) (mem : Value) → StaysHeld g.sizes (begin g s result mem)
  begin_held result mem = on (is_none s.top.instance)
    where
      owned : (v : Value) → StaysHeld g.sizes (and_then (and_then
          (own s.world.memory v (own_frame g s).size Kind.Allocator)
          (λ memory. and_then (found Cause.Begin (block_of v)) (λ b. Ok (begun g (with_memory s memory) b 0))))
          (λ z. Ok (gives z result mem)))
      owned (Value.Ptr (Pointer.At b o)) =
          by (o.bits == 0) (may_be_owned Kind.Allocator (own_frame g s).size (slice_get s.world.memory b)) refl
        where
          by : (c d : Bool) → may_be_owned Kind.Allocator (own_frame g s).size (slice_get s.world.memory b) ≡ d
              → StaysHeld g.sizes (and_then (and_then (check (c && d) Cause.Begin
              (Ok (with_block s.world.memory b (owned_to (own_frame g s).size))))
              (λ memory. and_then (found Cause.Begin (Some b)) (λ b. Ok (begun g (with_memory s memory) b 0))))
              (λ z. Ok (gives z result mem)))
          by true true e = begun_held b (free_block s.world.memory b (own_frame g s).size e)
          by true false e = tt
          by false d e = tt
      owned (Value.Ptr Pointer.Null) = tt
      owned (Value.Ptr (Pointer.Func f)) = tt
      owned (Value.Int w) = tt
      owned Value.Poison = tt

      on : (b : Bool) → StaysHeld g.sizes (and_then (ok_if b Cause.Begin s)
          (λ z. and_then (begin_at g z mem Kind.Allocator) (λ z. Ok (gives z result mem))))
      on true = owned mem
      on false = tt

-- ---- the end

finish_held : (sizes : List Frame) (s : State) → IsSlottedState s → IsHeldState sizes s
    → IsHeldState sizes (finish s)
finish_held sizes s slotted h = on (own_instance s) (λ i x e. own_is s i x e)
  where
    on : (o : Option (ℕ × Instance)) → ((i : ℕ) (x : Instance) → o ≡ Some (i, x) → slice_get s.instances i ≡ Some x)
        → IsHeldState sizes (with_memory (change_own s (λ x. record x { status = Status.Finished }) o)
        (without_slots s.world.memory (slots_of o)))
    on None is = h
    on (Some p) is = changed_held sizes (without_slots s.world.memory p.1.slots) s.instances
        (moved_held sizes s.world.memory (without_slots s.world.memory p.1.slots) s.instances h (λ i x e u f.
        instance_still sizes s h slotted p.0 p.1 (is p.0 p.1 refl) i x e f.block f.there)) p.0 p.1
        (record p.1 { status = Status.Finished }) (is p.0 p.1 refl) refl refl refl

-- ---- hooks

pub renewed_keeps_held : (g : RenewedGiven) → KeepsHeld (renewed_hooks g)
renewed_keeps_held g = record {
  slots = renewed_keeps_slots g;
  go_on = λ s i x at vs label e h.
      renews_held g.given.sizes g (push (with_status s i x Status.Running) (resumed i x at
      (kept (g.keep x.coroutine at) vs))) at.block label
      (renewed_from (g.flags x.coroutine) (function_at g.given.code x.coroutine) 0)
      (instance_held g.given.sizes s h i x (record x { status = Status.Running }) e refl refl refl);
  place = λ s slot new h. life_held g s slot s.top.mode (new_apart s slot new) h;
  start = λ s result mem slotted h. begin_held g.given s h result mem;
  close = λ s slotted h. finish_held g.given.sizes s slotted h;
}

-- ---- runs

pub renewed_states_held : (g : RenewedGiven) (entry : ℕ) (args : List Word) (n : ℕ)
    → ((k : ℕ) → k < n → MarksNoFrame (renewed_hooks g)
    (iterate (renewed_step g) k (first_state g.given.code entry args)))
    → IsHeldState g.given.sizes (iterate (renewed_step g) n (first_state g.given.code entry args))
renewed_states_held g entry args n marks =
    subst (IsHeldState g.given.sizes) (sym (same n))
    (steps_held (renewed_hooks g) (renewed_keeps_held g) n (first_state g.given.code entry args)
    (first_slotted g.given.code entry args) (λ k lt. subst (MarksNoFrame (renewed_hooks g)) (same k) (marks k lt))
    (λ i x e. absurd (cc)))
  where
    same : (k : ℕ) → iterate (renewed_step g) k (first_state g.given.code entry args)
        ≡ iterate (step_of (renewed_hooks g)) k (first_state g.given.code entry args)
    same k = same_runs (renewed_step g) (step_of (renewed_hooks g)) (renewed_steps g) k
        (first_state g.given.code entry args)
