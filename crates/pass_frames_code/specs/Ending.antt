-- Ends of coroutines: what is asked of a state whose next step is coro.end.
use Rattle.pass_proofs.specs.run_step.Values.{truth_value}
use Rattle.std.specs.Prelude.{◌≡◌, ◌+◌, ◌<◌, ℕ, Bool, true, false, List, ◌∷◌, length, slice_get, Some, Option}
use Rattle.pass_proofs.specs.ir_base.declared.outcome.Outcome.{Outcome}
use Rattle.pass_proofs.specs.ir_model.Ty.{Ty}
use Rattle.pass_proofs.specs.ir_model.declared.instr.Instr.{Instr}
use Rattle.pass_proofs.specs.ir_model.declared.operand.Arg.{Arg}
use Rattle.pass_proofs.specs.ir_model.declared.operand.Callee.{Callee}
use Rattle.pass_proofs.specs.ir_model.declared.operand.Intrinsic.{Intrinsic}
use Rattle.pass_frames_code.specs.Operands.{IsAtFetch}
use Rattle.pass_frames_code.specs.Places.{edged, instrs_at}
use Rattle.pass_frames_code.specs.Related.{Building, is_first}
use Rattle.pass_frames_code.specs.Returning.{GoesBehind, HasOwnSlots, HasSlotKinds, HasSlotsListed, IsAmong}
use Rattle.pass_frames_code.specs.Stepping.{IsUnlocated, state_in}
use Rattle.pass_renewed_proof.specs.Renewed.{RenewedGiven}
use Rattle.pass_proofs.specs.run_memory.Memory.{same_kind}
use Rattle.pass_proofs.specs.run_memory.declared.block.Kind.{Kind}
use Rattle.pass_proofs.specs.run_memory.declared.block.MemoryBlock.{MemoryBlock}
use Rattle.pass_proofs.specs.run_memory.declared.pointer.Value.{Value}
use Rattle.pass_proofs.specs.run_source.declared.state.Activation.{Activation}
use Rattle.pass_proofs.specs.run_source.declared.state.Instance.{Instance}
use Rattle.pass_proofs.specs.run_source.declared.state.Mode.{Mode}
use Rattle.pass_proofs.specs.run_source.declared.state.State.{State}

abbrev pub end_call : Option ℕ → Bool → Option Ty → List Arg → Instr
end_call result must_tail ty args = Instr.Call result must_tail ty (Callee.Intrinsic Intrinsic.CoroEnd) args

-- The next step is coro.end of an activation that has begun an instance. Its frame lies in a block of an allocator, which
-- is no slot of it.
pub record IsAtEnd (b : Building) (g : RenewedGiven) (s : State) (result : Option ℕ) (must_tail : Bool)
    (ty : Option Ty) (args : List Arg) : Type 0 where
  pub runs : s.outcome ≡ Outcome.Running
  pub at : IsAtFetch b s (end_call result must_tail ty args)
  pub unlocated : IsUnlocated (b.framing s.top.func) (state_in (b.framing s.top.func) s.top.block s.top.at)
      (end_call result must_tail ty args)
  pub allocas : (at u align : ℕ) (of : Ty)
      → slice_get (instrs_at (b.framing s.top.func) 0) at ≡ Some (Instr.Alloca u of align)
      → u < length (edged (b.framing s.top.func)).names
  pub number : ℕ
  pub instance : Instance
  pub own : s.top.instance ≡ Some number
  pub there : slice_get s.instances number ≡ Some instance
  pub frame : MemoryBlock
  pub frame_there : slice_get s.world.memory instance.block ≡ Some frame
  pub no_stack : same_kind frame.kind Kind.Stack ≡ false
  pub apart : IsAmong instance.block instance.slots → ⊥

-- a resumed activation leads back to its resumer, behind its call
pub record LeadsBack (b : Building) (s t : State) (a : Activation) (more : List Activation) : Type 0 where
  pub resumed : s.top.mode ≡ Mode.Resumed
  pub below : s.below ≡ a ∷ more
  pub goes : GoesBehind b a s.top.result Value.Poison
  pub listed : HasSlotsListed s
  pub kinds : HasSlotKinds s
  pub own_target : HasOwnSlots t

-- a ramp goes on behind it with false
pub record GoesOnPast (b : Building) (s : State) (result : Option ℕ) : Type 0 where
  pub first : is_first s.top.mode ≡ true
  pub goes : GoesBehind b (record s.top { at = s.top.at + 1 }) result (truth_value false)
