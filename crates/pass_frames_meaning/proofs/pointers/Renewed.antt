-- The hooks that make slots anew keep states where pointers' types have pointers.
use Rattle.std.proofs.Common.{◌≡◌, ℕ, Bool, true, false, not, List, [], ◌∷◌, Option, Some, None, Result, Ok, Err}
use Rattle.std.proofs.Common.{refl, subst, ◌==◌}
use Rattle.std.specs.Prelude.{find, if◌then◌else◌}
use Rattle.pass_frames_proof.specs.ir_base.declared.cause.Cause.{Cause}
use Rattle.pass_frames_proof.specs.ir_model.Names.{function_at}
use Rattle.pass_frames_proof.specs.ir_model.declared.module.Module.{Module}
use Rattle.pass_frames_proof.specs.ir_model.declared.operand.Operand.{Operand}
use Rattle.pass_frames_proof.specs.ir_paths.declared.point.Point.{Point}
use Rattle.pass_frames_meaning.proofs.pointers.Beginning.{begin_fits, entering, finish_top, finished_fits, resumed_fits}
use Rattle.pass_frames_meaning.proofs.pointers.Parts.{memory_set, placed, slots_set}
use Rattle.pass_frames_meaning.proofs.pointers.Values.{kept_points, renewed_points}
use Rattle.pass_frames_meaning.specs.Pointers.{ArePointing, IsAddress, IsPointingState, KeepsPointing}
use Rattle.pass_frames_proof.specs.pass_kept_proof.Kept.{kept}
use Rattle.pass_frames_proof.specs.pass_renewed_proof.Renewed.{RenewedGiven, framed_of, renew_after, renewed_from, renewed_slot}
use Rattle.pass_frames_proof.specs.pass_renewed_proof.Renewed.{with_life, with_renewed}
use Rattle.pass_renewed_meaning.specs.run_hooks.Meanings.{renewed_hooks}
use Rattle.pass_frames_proof.specs.run_memory.Memory.{start}
use Rattle.pass_frames_proof.specs.run_memory.declared.pointer.Pointer.{Pointer}
use Rattle.pass_frames_proof.specs.run_memory.declared.pointer.Value.{Value}
use Rattle.pass_frames_proof.specs.run_source.Source.{frame_address, frame_of_promise, has_promise_at, is_live_at, promise}
use Rattle.pass_frames_proof.specs.run_source.Source.{promise_of_frame}
use Rattle.pass_frames_proof.specs.run_source.Source.{is_over, promise_block, push, resumed}
use Rattle.pass_frames_proof.specs.run_source.State.{frame_address_of, function_of, instance_at, own_instance, with_memory, with_slots}
use Rattle.pass_frames_proof.specs.run_source.State.{with_status}
use Rattle.pass_frames_proof.specs.run_source.declared.state.Instance.{Instance}
use Rattle.pass_frames_proof.specs.run_source.declared.state.Mode.{Mode}
use Rattle.pass_frames_proof.specs.run_source.declared.state.State.{State}
use Rattle.pass_frames_proof.specs.run_source.declared.state.Status.{Status}
use Rattle.pass_frames_proof.specs.run_source_tables.Given.{Given, is_true}
use Rattle.pass_frames_proof.specs.run_step.Results.{and_then, found, ok_if}
use Rattle.pass_frames_proof.specs.run_step.Values.{Env, pointer_to}
use Rattle.pass_frames_proof.specs.run_step.declared.world.Slot.{Slot}
use Rattle.pass_renewed_meaning.specs.run_types.Rules.{KeepsAllTypes}

-- ---- what free and promise give

frame_is : (o : Option (ℕ × Instance)) → IsAddress (frame_address o)
frame_is None = tt
frame_is (Some (i, x)) = tt

abbrev AddressIfAny : Result Value Cause → Type 0
AddressIfAny (Ok v) = IsAddress v
AddressIfAny (Err cause) = Unit {0}

at_frame : (g : Given) (s : State) (p : Value) → AddressIfAny (promise_of_frame g s p)
at_frame g s p = on (instance_at s.instances p)
  where
    last : (b : Bool) (v : Value) → IsAddress v → AddressIfAny (ok_if b Cause.Dead v)
    last true v a = a
    last false v a = tt

    by : (x : Instance) (o : Option ℕ)
        → AddressIfAny (and_then (found Cause.Promise o) (λ b. ok_if (not (is_over x)) Cause.Dead (pointer_to b)))
    by x None = tt
    by x (Some b) = last (not (is_over x)) (pointer_to b) tt

    on : (o : Option (ℕ × Instance)) → AddressIfAny (and_then (found Cause.Frame o) (λ (i, x).
        and_then (found Cause.Promise (promise_block g x)) (λ b. ok_if (not (is_over x)) Cause.Dead (pointer_to b))))
    on None = tt
    on (Some (i, x)) = by x (promise_block g x)

of_promise : (g : Given) (s : State) (p : Value) → AddressIfAny (frame_of_promise g s p)
of_promise g s Value.Poison = tt
of_promise g s (Value.Int x) = tt
of_promise g s (Value.Ptr Pointer.Null) = tt
of_promise g s (Value.Ptr (Pointer.Func f)) = tt
of_promise g s (Value.Ptr (Pointer.At b offset)) =
    on (if offset.bits == 0 then find (has_promise_at g b) s.instances else None)
  where
    last : (t : Bool) (x : Instance) → AddressIfAny (ok_if t Cause.Promise (frame_address_of x))
    last true x = tt
    last false x = tt

    on : (o : Option Instance) → AddressIfAny (and_then (found Cause.Promise o) (λ x.
        ok_if (is_live_at s.world.memory b) Cause.Promise (frame_address_of x)))
    on None = tt
    on (Some x) = last (is_live_at s.world.memory b) x

promise_is : (g : Given) (s : State) (p : Value) (from : Operand) (v : Value) → promise g s p from ≡ Ok v → IsAddress v
promise_is g s p from v e = subst AddressIfAny e (on (is_true from))
  where
    on : (b : Bool) → AddressIfAny (if b then frame_of_promise g s p else promise_of_frame g s p)
    on true = of_promise g s p
    on false = at_frame g s p

-- ---- a resume

renewing : (g : RenewedGiven) → KeepsAllTypes g.given.code → (s : State) → IsPointingState g.given.code s
    → (from label : ℕ) (o : Option Point) → IsPointingState g.given.code (renew_after g s from label o)
renewing g rules s h from label (Some p) = entering g.given.code (framed_of g) refl rules s h from label (Some p)
renewing g rules s h from label None =
    entering g.given.code (framed_of g) refl rules (with_renewed (g.roots s.top.func) s) (record {
      top = renewed_points (function_at g.given.code s.top.func) (g.roots s.top.func) s.top.values s.top.values h.top;
      below = h.below;
      instances = h.instances;
    }) from label None

-- ---- the hooks

pub renewed_keeps_pointing : (g : RenewedGiven) → KeepsAllTypes g.given.code → KeepsPointing (renewed_hooks g)
renewed_keeps_pointing g rules = record {
  go_on = λ s h i x suspend values label k.
      renewing g rules (push (with_status s i x Status.Running)
      (resumed i x suspend (kept (g.keep x.coroutine suspend) values)))
      (resumed_fits g.given.code s h i x suspend (kept (g.keep x.coroutine suspend) values)
      (kept_points (function_at g.given.code x.coroutine) (g.keep x.coroutine suspend) values k)) suspend.block label
      (renewed_from (g.flags x.coroutine) (function_at g.given.code x.coroutine) 0);
  place = λ s slot h. place s slot (alive s slot h (g.flags s.top.func slot.alloca)) s.top.mode;
  start = λ s result memory h. begin_fits g.given.code g.given s h result memory;
  close = λ s h. finished_fits g.given.code s h;
  closed = λ s. finish_top g.given.code s;
  freed = λ s. frame_is (own_instance s);
  promised = λ s p from v e. promise_is g.given s p from v e;
  ungiven = λ s block at. refl;
}
  where
    alive : (s : State) (slot : Slot) → IsPointingState g.given.code s → (b : Bool)
        → IsPointingState g.given.code (if b then with_memory s (start s.world.memory slot.block) else s)
    alive s slot h true = memory_set g.given.code s h (start s.world.memory slot.block)
    alive s slot h false = h

    place : (s : State) (slot : Slot) → IsPointingState g.given.code (with_life g s slot) → (mode : Mode)
        → IsPointingState g.given.code (renewed_slot g (with_life g s slot) slot mode)
    place s slot h (Mode.Entering from label) =
        renewing g rules (with_slots (with_life g s slot) (slot ∷ (with_life g s slot).top.slots))
        (slots_set g.given.code (with_life g s slot) h (slot ∷ (with_life g s slot).top.slots)) from label
        (renewed_from (g.flags (with_life g s slot).top.func) (function_of g.given (with_life g s slot))
        (with_life g s slot).top.at)
    place s slot h Mode.Plain = placed g.given.code g.given (with_life g s slot) h slot
    place s slot h Mode.Ramp = placed g.given.code g.given (with_life g s slot) h slot
    place s slot h Mode.Resumed = placed g.given.code g.given (with_life g s slot) h slot
    place s slot h (Mode.GivenRamp frame) = placed g.given.code g.given (with_life g s slot) h slot
