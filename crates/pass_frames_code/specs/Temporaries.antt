-- Temporaries of slots that are used before begin.
use Rattle.std.specs.List.{Contains}
use Rattle.std.specs.Prelude.{◌≡◌, None}
use Rattle.pass_proofs.specs.run_source.declared.state.Mode.{Mode}
use Rattle.pass_proofs.specs.run_source.declared.state.State.{State}
use Rattle.pass_proofs.specs.run_step.Values.{pointer_to, value_in}
use Rattle.pass_proofs.specs.run_step.declared.world.Slot.{Slot}

-- In the framed run the name of each slot that an activation has made before begin leads to it.
pub record HasLedSlots (t : State) : Type 0 where
  pub each : t.top.mode ≡ Mode.Ramp → t.top.instance ≡ None → (slot : Slot) → Contains t.top.slots slot
      → value_in t.top.values slot.alloca ≡ pointer_to slot.block
