-- A call of a coro intrinsic that the framed run and its part are at.
use Rattle.std.specs.Prelude.{◌≡◌, ℕ, ◌<◌, ◌^◌, Bool, true, false, List, Option, Some}
use Rattle.pass_proofs.specs.ir_model.Names.{function_at}
use Rattle.pass_proofs.specs.ir_model.Ty.{Ty}
use Rattle.pass_proofs.specs.ir_model.declared.instr.Instr.{Instr}
use Rattle.pass_proofs.specs.ir_model.declared.operand.Arg.{Arg}
use Rattle.pass_proofs.specs.ir_model.declared.operand.Callee.{Callee}
use Rattle.pass_proofs.specs.ir_model.declared.operand.Intrinsic.{Intrinsic}
use Rattle.pass_proofs.specs.pass_intrinsics.declared.shape.Shape.{Shape}
use Rattle.pass_split_proof.specs.places.Places.{IsPlace}
use Rattle.pass_split_proof.specs.states.Activations.{is_entering}
use Rattle.pass_split_proof.specs.states.Related.{AreRelated}
use Rattle.pass_proofs.specs.run_framed.Framed.{FramedGiven}
use Rattle.run_access_worked.specs.run_plain.Plain.{PlainGiven}
use Rattle.run_access_worked.specs.run_plain.declared.state.PlainState.{PlainState}
use Rattle.pass_proofs.specs.run_source.State.{function_of, own_frame}
use Rattle.pass_proofs.specs.run_source.declared.state.State.{State}
use Rattle.pass_proofs.specs.run_step.Step.{AtInstr, fetch}

-- The framed run is at such a call, and the part is at the same place. The name of the frame isn't set.
pub record IsAtIntrinsic (g : FramedGiven) (h : PlainGiven) (s : State) (t : PlainState) (r : AreRelated g h s t)
    (x : Intrinsic) : Type 0 where
  pub settled : is_entering s.top.mode ≡ false
  pub place : IsPlace r.top.shape r.top.part (function_of g.given s) (function_at h.code t.top.func) s.top.block
      s.top.at t.top.block t.top.at
  pub result : Option ℕ
  pub must_tail : Bool
  pub ty : Option Ty
  pub args : List Arg
  pub there : fetch (function_of g.given s) s.top.block s.top.at ≡ AtInstr (Instr.Call result must_tail ty
      (Callee.Intrinsic x) args)
  pub others : result ≡ Some r.top.shape.begin → ⊥

-- the frame's size and alignment, and whether it is allocated
abbrev pub is_constant : Intrinsic → Bool
is_constant Intrinsic.CoroSizeI32 = true
is_constant Intrinsic.CoroSizeI64 = true
is_constant Intrinsic.CoroAlignI32 = true
is_constant Intrinsic.CoroAlignI64 = true
is_constant Intrinsic.CoroAlloc = true
is_constant x = false

-- a shape has the size and the alignment of the frame, which are small
pub record HasOwnSize (g : FramedGiven) (s : State) (shape : Shape) : Type 0 where
  pub size : (own_frame g.given s).size ≡ shape.size
  pub align : (own_frame g.given s).align ≡ shape.align
  pub small_size : shape.size < 2 ^ 32
  pub small_align : shape.align < 2 ^ 32
