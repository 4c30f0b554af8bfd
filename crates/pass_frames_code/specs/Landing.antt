-- A line of a coroutine that fills cells alone: what it leaves, so that the states are related behind it.
use Rattle.std.specs.Prelude.{◌≡◌, ◌<◌, ℕ, false, length, slice_get, Some, None}
use Rattle.std.specs.List.{Contains}
use Rattle.pass_proofs.specs.ir_model.Ty.{Ty}
use Rattle.pass_proofs.specs.ir_model.declared.instr.Instr.{Instr}
use Rattle.pass_proofs.specs.pass_cells.Kept.{entry}
use Rattle.pass_proofs.specs.pass_copies.declared.slot.EarlySlot.{EarlySlot}
use Rattle.pass_frames_code.specs.Led.{SparesBlocks}
use Rattle.pass_frames_code.specs.Lines.{at_work}
use Rattle.pass_frames_code.specs.Places.{copies, edged, instrs_at, offsets, plan}
use Rattle.pass_frames_code.specs.Related.{AreBuiltOf, AreCellsRight, Building}
use Rattle.pass_proofs.specs.addresses.rules.Addresses.{lies_in_frame}
use Rattle.pass_proofs.specs.run_framed.Framed.{frame_rights}
use Rattle.pass_proofs.specs.run_laws.memory.Pointers.{IsValue}
use Rattle.pass_proofs.specs.run_laws.transfer.Transfer.{AreOver}
use Rattle.pass_proofs.specs.run_memory.Memory.{owner_rights}
use Rattle.pass_proofs.specs.run_source.declared.state.State.{State}
use Rattle.pass_proofs.specs.run_step.Step.{Work}
use Rattle.pass_proofs.specs.run_step.Values.{Env, value_in}
use Rattle.pass_proofs.specs.run_step.declared.world.World.{World}

-- The source's memory stays, and its activation has other values. In the target cells of the activation alone are
-- filled, and are right by those values. Names of temporaries, of their cells and of allocas have what they had.
pub record LeavesCells (b : Building) (s t : State) (r : AreBuiltOf b s t) (w : World) (env : Env) (y : Work) : Type 0
  where
    pub source : w.memory ≡ s.world.memory
    pub over : AreOver owner_rights (frame_rights b.given t.instances) r.homes r.hides (λ d. d) w y.world
    pub spares : SparesBlocks (b.framing s.top.func) t.top t.world.memory y.world.memory
    pub right : AreCellsRight (b.framing s.top.func) r.homes (frame_rights b.given t.instances) y.world.memory env
        (at_work t.top y)
    pub room : length y.values ≡ length t.top.values
    pub names : (u : ℕ) → entry (plan (b.framing s.top.func)).places u ≡ None
        → lies_in_frame (offsets (b.framing s.top.func)) u ≡ false → IsValue r.homes (value_in env u) (value_in y.values u)
    pub wheres : (e : EarlySlot) → Contains (copies (b.framing s.top.func)).slots e
        → (value_in y.values e.cell ≡ value_in t.top.values e.cell)
        × (value_in y.values e.temporary ≡ value_in t.top.values e.temporary)
    pub allocas : (at u align : ℕ) (ty : Ty)
        → slice_get (instrs_at (b.framing s.top.func) 0) at ≡ Some (Instr.Alloca u ty align)
        → (u < length (edged (b.framing s.top.func)).names) × (value_in y.values u ≡ value_in t.top.values u)
