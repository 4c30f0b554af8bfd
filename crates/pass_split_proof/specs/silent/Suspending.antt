-- A suspend that the framed run is at.
use Rattle.std.specs.Prelude.{◌≡◌, ℕ, ◌<◌, Bool, true, false, List, Option, Some, length}
use Rattle.pass_proofs.specs.ir_model.Names.{function_at}
use Rattle.pass_proofs.specs.ir_model.Ty.{Ty}
use Rattle.pass_proofs.specs.ir_model.declared.instr.Instr.{Instr}
use Rattle.pass_proofs.specs.ir_model.declared.operand.Arg.{Arg}
use Rattle.pass_proofs.specs.ir_model.declared.operand.Callee.{Callee}
use Rattle.pass_proofs.specs.ir_model.declared.operand.Intrinsic.{Intrinsic}
use Rattle.pass_proofs.specs.ir_model.declared.operand.Operand.{Operand}
use Rattle.pass_proofs.specs.ir_paths.Windows.{operand_at}
use Rattle.pass_split_proof.specs.places.Places.{IsPlace}
use Rattle.pass_split_proof.specs.states.Activations.{is_entering}
use Rattle.pass_split_proof.specs.states.Related.{AreRelated}
use Rattle.pass_proofs.specs.run_framed.Framed.{FramedGiven}
use Rattle.run_access_worked.specs.run_plain.Plain.{PlainGiven}
use Rattle.run_access_worked.specs.run_plain.declared.state.PlainState.{PlainState}
use Rattle.pass_proofs.specs.run_source.State.{function_of}
use Rattle.pass_proofs.specs.run_source.declared.state.State.{State}
use Rattle.pass_proofs.specs.run_step.Step.{AtInstr, fetch}

-- The framed run is at a suspend with the token of a save, and with a name of the function.
pub record IsAtSuspend (g : FramedGiven) (s : State) : Type 0 where
  pub coroutine : (function_of g.given s).coroutine ≡ true
  pub result : ℕ
  pub must_tail : Bool
  pub ty : Option Ty
  pub args : List Arg
  pub there : fetch (function_of g.given s) s.top.block s.top.at ≡ AtInstr (Instr.Call (Some result) must_tail ty
      (Callee.Intrinsic Intrinsic.CoroSuspend) args)
  pub token : ℕ
  pub saved : operand_at args 0 ≡ Operand.Local token
  pub known : result < length (function_of g.given s).names

-- The part is at the same place.
pub record IsAtSuspendInPart (g : FramedGiven) (h : PlainGiven) (s : State) (t : PlainState) (r : AreRelated g h s t)
    : Type 0 where
  pub at : IsAtSuspend g s
  pub settled : is_entering s.top.mode ≡ false
  pub place : IsPlace r.top.shape r.top.part (function_of g.given s) (function_at h.code t.top.func) s.top.block
      s.top.at t.top.block t.top.at
