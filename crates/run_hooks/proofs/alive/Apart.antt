-- Two live slots of an instance conflict.
use Rattle.std.proofs.Common.{◌≡◌, inl, inr, ℕ, Bool, true, false, Some, refl}
use Rattle.std.specs.Prelude.{slice_get}
use Rattle.pass_renewed_proof.specs.frame_classes.Alive.{Started}
use Rattle.frame_conflicts.specs.Conflicts.{Conflict, Together, Unmarked}
use Rattle.pass_renewed_proof.specs.ir_model.Names.{function_at}
use Rattle.pass_renewed_proof.specs.ir_model.declared.module.Function.{Function}
use Rattle.pass_renewed_proof.specs.ir_model.declared.module.Module.{Module}
use Rattle.pass_renewed_proof.specs.ir_paths.Slots.{IsRampSlot}
use Rattle.run_hooks.proofs.alive.Parts.{all_where}
use Rattle.run_hooks.proofs.alive.Says.{may_be_alive, none_marked}
use Rattle.run_hooks.specs.alive.Alive.{IsAliveState}
use Rattle.run_hooks.specs.alive.Apart.{LiveAreApart}
use Rattle.run_hooks.specs.alive.Slots.{IsMetSlot, lives}
use Rattle.pass_renewed_proof.specs.run_source.declared.state.Instance.{Instance}
use Rattle.pass_renewed_proof.specs.run_source.declared.state.State.{State}
use Rattle.pass_renewed_proof.specs.run_step.Step.{has_markers}
use Rattle.pass_renewed_proof.specs.run_step.declared.world.Slot.{Slot}

pub live_conflict : (m : Module) (counts : ℕ → ℕ → Bool) (s : State) → IsAliveState m counts s
    → (i j k : ℕ) (x : Instance)
    (one other : Slot) → slice_get s.instances i ≡ Some x → slice_get x.slots j ≡ Some one
    → slice_get x.slots k ≡ Some other → lives s.world.memory one.block ≡ true
    → lives s.world.memory other.block ≡ true → counts x.coroutine one.alloca ≡ true
    → counts x.coroutine other.alloca ≡ true → Conflict (function_at m x.coroutine) one.alloca other.alloca
live_conflict m counts s h i j k x one other there ej ek live lives_too counted counts_too =
    on (has_markers f one.alloca) refl (has_markers f other.alloca) refl
  where
    f : Function
    f = function_at m x.coroutine

    shared : (n : ℕ) (slot : Slot) → slice_get x.slots n ≡ Some slot
        → IsRampSlot (function_at m x.coroutine) slot.alloca → ⊥
    shared n slot e = all_where (λ slot. IsRampSlot (function_at m x.coroutine) slot.alloca → ⊥) x.slots
        (h.instances i x there).shared n slot e

    on : (t : Bool) → has_markers (function_at m x.coroutine) one.alloca ≡ t → (u : Bool)
        → has_markers (function_at m x.coroutine) other.alloca ≡ u
        → Conflict (function_at m x.coroutine) one.alloca other.alloca
    on false et u eu = Unmarked (inl (none_marked (function_at m x.coroutine) one.alloca et))
    on true et false eu = Unmarked (inr (none_marked (function_at m x.coroutine) other.alloca eu))
    on true et true eu =
        let met = (h.instances i x there).met in
        let a = all_where (IsMetSlot (counts x.coroutine) s.world.memory (function_at m x.coroutine) met.point) x.slots
        met.each j one ej live counted et (shared j one ej) in
        let b = all_where (IsMetSlot (counts x.coroutine) s.world.memory (function_at m x.coroutine) met.point) x.slots
        met.each k other ek lives_too counts_too eu (shared k other ek) in
        Together (record {
          point = met.point;
          is_point = a.is_open.is_point;
          is_outside = a.is_open.is_outside;
          is_before_end = a.is_open.is_before_end;
          one = Started a.start a.is_start a.path;
          other = Started b.start b.is_start b.path;
        })

pub are_apart : (m : Module) (s : State) → IsAliveState m (λ func v. true) s → LiveAreApart m s
are_apart m s h = record {
  slots = λ i x one other there a b. live_conflict m (λ func v. true) s h i a.position b.position x one other there
      a.is_slot b.is_slot a.is_live b.is_live refl refl;
  values = λ i x u values slot there status a.
      may_be_alive (λ v. true) s.world.memory (function_at m x.coroutine) values u x
      ((h.instances i x there).asleep u values status).alive a.position slot a.is_slot a.is_live refl;
}
