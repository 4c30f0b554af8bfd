-- The facts by which fields share bytes: live slots of an instance conflict, and so do a live slot and a value of its
-- point.
use Rattle.std.specs.Prelude.{◌≡◌, ℕ, true, slice_get, Some}
use Rattle.pass_renewed_proof.specs.frame_classes.Alive.{MayBeAlive}
use Rattle.frame_conflicts.specs.Conflicts.{Conflict}
use Rattle.pass_renewed_proof.specs.ir_model.Names.{function_at}
use Rattle.pass_renewed_proof.specs.ir_model.declared.module.Module.{Module}
use Rattle.pass_renewed_proof.specs.ir_paths.declared.point.Point.{Point}
use Rattle.run_hooks.specs.alive.Slots.{lives}
use Rattle.pass_renewed_proof.specs.run_source.declared.state.Instance.{Instance}
use Rattle.pass_renewed_proof.specs.run_source.declared.state.State.{State}
use Rattle.pass_renewed_proof.specs.run_source.declared.state.Status.{Status}
use Rattle.pass_renewed_proof.specs.run_step.Values.{Env}
use Rattle.pass_renewed_proof.specs.run_step.declared.world.Slot.{Slot}

-- a live slot of an instance
pub record IsLiveSlot (s : State) (x : Instance) (slot : Slot) : Type 0 where
  pub position : ℕ
  pub is_slot : slice_get x.slots position ≡ Some slot
  pub is_live : lives s.world.memory slot.block ≡ true

-- slots of one instance that are live at once conflict; a live slot may be alive at the suspend where its instance is
-- Suspended, so it conflicts with each value that crosses that
pub record LiveAreApart (m : Module) (s : State) : Type 0 where
  pub slots : (i : ℕ) (x : Instance) (one other : Slot) → slice_get s.instances i ≡ Some x → IsLiveSlot s x one
      → IsLiveSlot s x other → Conflict (function_at m x.coroutine) one.alloca other.alloca
  pub values : (i : ℕ) (x : Instance) (suspend : Point) (values : Env) (slot : Slot) → slice_get s.instances i ≡ Some x
      → x.status ≡ Status.Suspended suspend values → IsLiveSlot s x slot
      → MayBeAlive (function_at m x.coroutine) slot.alloca suspend
