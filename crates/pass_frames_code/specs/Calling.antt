-- Calls: what is asked of a state whose next step enters a function.
use Rattle.std.specs.Prelude.{◌≡◌, ◌<◌, ℕ, Bool, false, List, length, slice_get, Some, Option}
use Rattle.pass_proofs.specs.ir_base.declared.outcome.Outcome.{Outcome}
use Rattle.pass_proofs.specs.ir_model.Ty.{Ty}
use Rattle.pass_proofs.specs.ir_model.declared.instr.Instr.{Instr}
use Rattle.pass_frames_code.specs.Lined.{GivesNone}
use Rattle.pass_frames_code.specs.Operands.{IsAtFetch}
use Rattle.pass_frames_code.specs.Places.{edged, instrs_at}
use Rattle.pass_frames_code.specs.Related.{Building, all_slots, is_coroutine}
use Rattle.pass_frames_code.specs.Returning.{IsAmong}
use Rattle.pass_frames_code.specs.Stepping.{IsFunctionCall, IsNotEntering, IsUnlocated, state_in}
use Rattle.pass_renewed_proof.specs.Renewed.{RenewedGiven}
use Rattle.pass_proofs.specs.run_framed.Framed.{framed_context}
use Rattle.pass_proofs.specs.run_laws.transfer.Transfer.{IsPointedAlike, same_maps}
use Rattle.pass_proofs.specs.run_memory.declared.pointer.Value.{Value}
use Rattle.pass_proofs.specs.run_source.Source.{context_of}
use Rattle.pass_proofs.specs.run_source.State.{function_of, work_of}
use Rattle.pass_proofs.specs.run_source.declared.state.State.{State}
use Rattle.pass_proofs.specs.run_step.Step.{AtInstr, Enter, fetch, instr_action}

-- The next step is a call in a coroutine, by a name or through a pointer, that enters a function. No call gives a frame,
-- since none is elided yet. What is called through a pointer fits the call in both. The address of a slot that is used
-- before begin is no argument there (K9). Allocas have names of the table.
pub record IsAtCall (b : Building) (g : RenewedGiven) (s : State) (i : Instr) (func : ℕ) (args : List Value)
    (result : Option ℕ) (must_tail : Bool) : Type 0 where
  pub runs : s.outcome ≡ Outcome.Running
  pub at : IsAtFetch b s i
  pub does : instr_action (context_of g.given s) (work_of s) i ≡ Enter func args result must_tail
  pub call : IsFunctionCall i
  pub unlocated : IsUnlocated (b.framing s.top.func) (state_in (b.framing s.top.func) s.top.block s.top.at) i
  pub pointed : (t : State)
      → IsPointedAlike same_maps (context_of g.given s) (framed_context b.given t) s.top.values (AtInstr i)
  pub gives : GivesNone b.framed_code i
  pub allocas : (at u align : ℕ) (ty : Ty)
      → slice_get (instrs_at (b.framing s.top.func) 0) at ≡ Some (Instr.Alloca u ty align)
      → u < length (edged (b.framing s.top.func)).names

-- The next step is a call in a function that is no coroutine, of any function.
pub record IsAtPlainCall (b : Building) (g : RenewedGiven) (s : State) (i : Instr) (func : ℕ) (args : List Value)
    (result : Option ℕ) (must_tail : Bool) : Type 0 where
  pub runs : s.outcome ≡ Outcome.Running
  pub plain : is_coroutine b s.top.func ≡ false
  pub mode : IsNotEntering s.top.mode
  pub there : fetch (function_of g.given s) s.top.block s.top.at ≡ AtInstr i
  pub does : instr_action (context_of g.given s) (work_of s) i ≡ Enter func args result must_tail
  pub call : IsFunctionCall i
  pub pointed : (t : State)
      → IsPointedAlike same_maps (context_of g.given s) (framed_context b.given t) s.top.values (AtInstr i)
  pub gives : GivesNone b.framed_code i

-- each slot of an activation has a block
abbrev pub HasBlocks : State → Type 0
HasBlocks t = (n : ℕ) → IsAmong n (all_slots t) → n < length t.world.memory
