-- In both runs between which frames are built, what makes slots anew comes of a resume or destroy.
use Rattle.std.proofs.Common.{◌≡◌, ℕ, Bool, true, false, List, [], ◌∷◌, Option, Some, None, Result, Ok, Err, refl, sym, ap, ◌∙◌, subst, if◌then◌else◌, ◌&&◌, ◌==◌}
use Rattle.std.specs.Prelude.{is_none, not}
use Rattle.pass_frames_proof.specs.ir_base.declared.cause.Cause.{Cause}
use Rattle.pass_frames_meaning.proofs.called.CalledHooks.{framed_keeps_called, renewed_keeps_called}
use Rattle.pass_frames_meaning.specs.Called.{IsCalm}
use Rattle.pass_frames_meaning.specs.Woken.{KeepsModes}
use Rattle.pass_frames_proof.specs.Stepping.{IsNotEntering}
use Rattle.pass_frames_proof.specs.pass_renewed_proof.Renewed.{RenewedGiven, renewed_slot, with_life}
use Rattle.pass_frames_proof.specs.run_framed.Framed.{FramedGiven, disown_given, framed_begin, framed_finish, framed_slot, given_call, is_stack_block}
use Rattle.pass_renewed_meaning.proofs.run_hooks.PlacedKeeping.{renewed_keeps_placed}
use Rattle.pass_renewed_meaning.specs.run_hooks.Meanings.{framed_hooks, renewed_hooks}
use Rattle.pass_frames_proof.specs.run_memory.Memory.{disown, own, start}
use Rattle.pass_frames_proof.specs.run_memory.declared.block.Kind.{Kind}
use Rattle.pass_frames_proof.specs.run_memory.declared.block.MemoryBlock.{MemoryBlock}
use Rattle.pass_frames_proof.specs.run_memory.declared.pointer.Value.{Value}
use Rattle.pass_frames_proof.specs.run_memory.Memory.{killed}
use Rattle.pass_frames_proof.specs.run_source.Source.{begin, begin_at, begun, change_own, finish, is_among, is_over, kill_late, new_slot, slots_of, with_new_slots}
use Rattle.pass_frames_proof.specs.run_source.State.{function_of, gives, own_facts, own_frame, own_instance, with_memory}
use Rattle.pass_frames_proof.specs.run_source.declared.state.Instance.{Instance}
use Rattle.pass_frames_proof.specs.run_source.declared.state.Mode.{Mode}
use Rattle.pass_frames_proof.specs.run_source.declared.state.State.{State}
use Rattle.pass_frames_proof.specs.run_source.declared.state.Status.{Status}
use Rattle.pass_frames_proof.specs.run_source_tables.Given.{Given}
use Rattle.pass_frames_proof.specs.run_step.Results.{and_then, found, ok_if}
use Rattle.pass_frames_proof.specs.run_step.Step.{block_of, fetch, without_slots}
use Rattle.pass_frames_proof.specs.run_step.declared.world.Slot.{Slot}

new_slot_mode : (g : Given) (s : State) (slot : Slot) → (new_slot g s slot).top.mode ≡ s.top.mode
new_slot_mode g s slot = on (own_instance s)
  where
    ramp : List ℕ
    ramp = (own_facts g s).ramp_slots

    on : (o : Option (ℕ × Instance))
        → (with_new_slots ramp o (kill_late ramp o s slot) (slot ∷ [])).top.mode ≡ s.top.mode
    on None = refl
    on (Some p) = by (is_over p.1 && not (is_among ramp slot))
      where
        by : (b : Bool)
            → (with_new_slots ramp (Some p) (if b then with_memory s (killed s.world.memory slot.block) else s)
            (slot ∷ [])).top.mode ≡ s.top.mode
        by true = refl
        by false = refl

abbrev Same : State → Result State Cause → Type 0
Same s (Err cause) = Unit {0}
Same s (Ok t) = t.top.mode ≡ s.top.mode

same_by : (s : State) (r : Result State Cause) (t : State) → Same s r → r ≡ Ok t → t.top.mode ≡ s.top.mode
same_by s (Err cause) t b e = absurd (cc)
same_by s (Ok u) t b e = let k : u ≡ t = cc in ap (λ (z : State). z.top.mode) (sym k) ∙ b

begin_mode : (g : Given) (s : State) (result : Option ℕ) (p : Value) → Same s (begin g s result p)
begin_mode g s result p = on (is_none s.top.instance)
  where
    last : (memory : List MemoryBlock) (o : Option ℕ)
        → Same s (and_then (and_then (found Cause.Begin o) (λ b. Ok (begun g (with_memory s memory) b 0)))
        (λ t. Ok (gives t result p)))
    last memory None = tt
    last memory (Some b) = refl

    by : (r : Result (List MemoryBlock) Cause)
        → Same s (and_then (and_then r (λ memory. and_then (found Cause.Begin (block_of p)) (λ b.
        Ok (begun g (with_memory s memory) b 0)))) (λ t. Ok (gives t result p)))
    by (Err cause) = tt
    by (Ok memory) = last memory (block_of p)

    on : (b : Bool) → Same s (and_then (ok_if b Cause.Begin s)
        (λ u. and_then (begin_at g u p Kind.Allocator) (λ t. Ok (gives t result p))))
    on true = by (own s.world.memory p (own_frame g s).size Kind.Allocator)
    on false = tt

life_mode : (g : RenewedGiven) (s : State) (slot : Slot) → (with_life g s slot).top.mode ≡ s.top.mode
life_mode g s slot = on (g.flags s.top.func slot.alloca)
  where
    on : (b : Bool) → (if b then with_memory s (start s.world.memory slot.block) else s).top.mode ≡ s.top.mode
    on true = refl
    on false = refl

renewed_place : (g : RenewedGiven) (s : State) (slot : Slot) (mode : Mode) → IsNotEntering mode
    → s.top.mode ≡ mode → IsNotEntering (renewed_slot g s slot mode).top.mode
renewed_place g s slot Mode.Plain h e = subst IsNotEntering (sym (new_slot_mode g.given s slot ∙ e)) tt
renewed_place g s slot Mode.Ramp h e = subst IsNotEntering (sym (new_slot_mode g.given s slot ∙ e)) tt
renewed_place g s slot Mode.Resumed h e = subst IsNotEntering (sym (new_slot_mode g.given s slot ∙ e)) tt
renewed_place g s slot (Mode.GivenRamp frame) h e = subst IsNotEntering (sym (new_slot_mode g.given s slot ∙ e)) tt
renewed_place g s slot (Mode.Entering from label) h e = absurd h

pub renewed_modes : (g : RenewedGiven) → KeepsModes (renewed_hooks g)
renewed_modes g = record {
  place = λ s slot h. (
    renewed_place g (with_life g s slot) slot s.top.mode h (life_mode g s slot),
    ((renewed_keeps_called g).place s slot).below,
  );
  start = λ s result memory t calm e. (
    same_by s (begin g.given s result memory) t (begin_mode g.given s result memory) e,
    ((renewed_keeps_called g).start s result memory t e).below,
  );
  go_on = λ s i x suspend values label. ((renewed_keeps_called g).go_on s i x suspend values label).below;
  closed = (renewed_keeps_placed g).closed;
  ungiven = λ s block at. refl;
}

framed_place : (g : FramedGiven) (s : State) (slot : Slot) (mode : Mode) → IsNotEntering mode → s.top.mode ≡ mode
    → IsNotEntering (framed_slot g s slot mode).top.mode
framed_place g s slot Mode.Plain h e = subst IsNotEntering (sym e) tt
framed_place g s slot Mode.Ramp h e = subst IsNotEntering (sym e) tt
framed_place g s slot Mode.Resumed h e = subst IsNotEntering (sym e) tt
framed_place g s slot (Mode.GivenRamp frame) h e = subst IsNotEntering (sym e) tt
framed_place g s slot (Mode.Entering from label) h e = absurd h

framed_start : (g : FramedGiven) (s : State) (result : Option ℕ) (memory : Value) (mode : Mode) → IsCalm mode
    → Same s (framed_begin g s result memory mode)
framed_start g s result memory Mode.Plain h = begin_mode g.given s result memory
framed_start g s result memory Mode.Ramp h = begin_mode g.given s result memory
framed_start g s result memory Mode.Resumed h = begin_mode g.given s result memory
framed_start g s result memory (Mode.GivenRamp frame) h = absurd h
framed_start g s result memory (Mode.Entering from label) h = absurd h

-- coro.end leaves activations
abbrev Leaves : State → State → Type 0
Leaves s t = (t.top ≡ s.top) × (t.below ≡ s.below)

finished : (s : State) → Leaves s (finish s)
finished s = on (own_instance s)
  where
    on : (o : Option (ℕ × Instance))
        → Leaves s (with_memory (change_own s (λ x. record x { status = Status.Finished }) o)
        (without_slots s.world.memory (slots_of (own_instance s))))
    on None = (refl, refl)
    on (Some p) = (refl, refl)

disowned : (s : State) (o : Option (ℕ × Instance)) → Leaves s (disown_given s o)
disowned s None = (refl, refl)
disowned s (Some (i, x)) = on (is_stack_block s.world.memory x.block && (x.start == 0))
  where
    on : (b : Bool) → Leaves s (if b then with_memory s (disown s.world.memory x.block) else s)
    on true = (refl, refl)
    on false = (refl, refl)

framed_closed : (s : State) → Leaves s (framed_finish s)
framed_closed s =
    let a = finished s in
    let b = disowned (finish s) (own_instance s) in
    (b.0 ∙ a.0, b.1 ∙ a.1)

pub framed_modes : (g : FramedGiven)
    → ((s : State) (block at : ℕ) → given_call g s (fetch (function_of g.given s) block at) ≡ None)
    → KeepsModes (framed_hooks g)
framed_modes g none = record {
  place = λ s slot h.
      (framed_place g s slot s.top.mode h refl, ((framed_keeps_called g none).place s slot).below);
  start = λ s result memory t calm e. (
    same_by s (framed_begin g s result memory s.top.mode) t (framed_start g s result memory s.top.mode calm) e,
    ((framed_keeps_called g none).start s result memory t e).below,
  );
  go_on = λ s i x suspend values label. ((framed_keeps_called g none).go_on s i x suspend values label).below;
  closed = framed_closed;
  ungiven = none;
}
