-- Coro intrinsics that only give a value, for which a part has one instruction.
use Rattle.std.specs.Prelude.{◌≡◌, ℕ, ◌<◌, ◌^◌, Bool, false, List, length, slice_get, Option, Some}
use Rattle.pass_proofs.specs.ir_base.declared.outcome.Outcome.{Outcome}
use Rattle.pass_proofs.specs.ir_model.Names.{function_at}
use Rattle.pass_proofs.specs.ir_model.Ty.{Ty}
use Rattle.pass_proofs.specs.ir_model.declared.instr.Instr.{Instr}
use Rattle.pass_proofs.specs.ir_model.declared.operand.Arg.{Arg}
use Rattle.pass_proofs.specs.ir_model.declared.operand.Callee.{Callee}
use Rattle.pass_proofs.specs.ir_model.declared.operand.Intrinsic.{Intrinsic}
use Rattle.pass_split_proof.specs.places.Places.{IsPlace}
use Rattle.pass_split_proof.specs.states.Activations.{is_entering}
use Rattle.pass_split_proof.specs.states.Related.{AreRelated}
use Rattle.pass_proofs.specs.run_framed.Framed.{FramedGiven}
use Rattle.run_access_worked.specs.run_plain.Plain.{PlainGiven}
use Rattle.run_access_worked.specs.run_plain.declared.state.PlainState.{PlainState}
use Rattle.pass_proofs.specs.run_source.State.{function_of}
use Rattle.pass_proofs.specs.run_source.declared.state.Instance.{Instance}
use Rattle.pass_proofs.specs.run_source.declared.state.State.{State}
use Rattle.pass_proofs.specs.run_step.Step.{AtInstr, fetch}

-- The framed run is at a coro.frame of an instance whose block there is, and the part is at the same place.
pub record IsAtFrame (g : FramedGiven) (h : PlainGiven) (s : State) (t : PlainState) (r : AreRelated g h s t)
    (name : ℕ) : Type 0 where
  pub running : s.outcome ≡ Outcome.Running
  pub settled : is_entering s.top.mode ≡ false
  pub place : IsPlace r.top.shape r.top.part (function_of g.given s) (function_at h.code t.top.func) s.top.block
      s.top.at t.top.block t.top.at
  pub must_tail : Bool
  pub ty : Option Ty
  pub args : List Arg
  pub there : fetch (function_of g.given s) s.top.block s.top.at ≡ AtInstr (Instr.Call (Some name) must_tail ty
      (Callee.Intrinsic Intrinsic.CoroFrame) args)
  pub own : ℕ
  pub instance : Instance
  pub is_own : s.top.instance ≡ Some own
  pub is : slice_get s.instances own ≡ Some instance
  pub block : instance.block < length s.world.memory
  pub start : instance.start < 2 ^ 64
  pub others : name ≡ r.top.shape.begin → ⊥
