-- A begin in a ramp that allocates its frame, which the framed run is at, and its part too.
use Rattle.std.specs.Prelude.{◌≡◌, ◌<◌, ◌≤◌, Bool, true, List, ◌∷◌, Option, Some, length}
use Rattle.pass_proofs.specs.ir_model.Names.{function_at}
use Rattle.pass_proofs.specs.ir_model.Ty.{Ty, ptr}
use Rattle.pass_proofs.specs.ir_model.declared.instr.Instr.{Instr}
use Rattle.pass_proofs.specs.ir_model.declared.operand.Arg.{Arg}
use Rattle.pass_proofs.specs.ir_model.declared.operand.Callee.{Callee}
use Rattle.pass_proofs.specs.ir_model.declared.operand.Intrinsic.{Intrinsic}
use Rattle.pass_proofs.specs.ir_paths.Slots.{allocas_of}
use Rattle.pass_proofs.specs.pass_intrinsics.declared.shape.Part.{Part}
use Rattle.pass_split_proof.specs.places.Places.{IsPlace}
use Rattle.pass_split_proof.specs.states.Instances.{IsLaidOut, address_of_part}
use Rattle.pass_split_proof.specs.states.Related.{AreRelated}
use Rattle.pass_split_proof.specs.steps.Operands.{IsReadable}
use Rattle.pass_proofs.specs.run_framed.Framed.{FramedGiven, layout_of}
use Rattle.run_access_worked.specs.run_plain.Plain.{PlainGiven}
use Rattle.run_access_worked.specs.run_plain.declared.state.PlainState.{PlainState}
use Rattle.pass_proofs.specs.run_source.State.{function_of, own_facts, own_frame}
use Rattle.pass_proofs.specs.run_source.declared.state.Mode.{Mode}
use Rattle.pass_proofs.specs.run_source.declared.state.State.{State}
use Rattle.pass_proofs.specs.run_step.Step.{AtInstr, fetch}
use Rattle.pass_proofs.specs.run_step.Values.{address_of}

-- The ramp's begin has the name of the frame, and an address that may be read in the part. All allocas are slots of the
-- ramp. The parts that a resume and a destroy call are found by their names.
pub record IsAtBegin (g : FramedGiven) (h : PlainGiven) (s : State) (t : PlainState) (r : AreRelated g h s t)
    : Type 0 where
  pub coroutine : (function_of g.given s).coroutine ≡ true
  pub mode : s.top.mode ≡ Mode.Ramp
  pub place : IsPlace r.top.shape r.top.part (function_of g.given s) (function_at h.code t.top.func) s.top.block
      s.top.at t.top.block t.top.at
  pub must_tail : Bool
  pub ty : Option Ty
  pub id : Arg
  pub memory : Arg
  pub rest : List Arg
  pub there : fetch (function_of g.given s) s.top.block s.top.at ≡ AtInstr (Instr.Call (Some r.top.shape.begin)
      must_tail ty (Callee.Intrinsic Intrinsic.CoroBegin) (id ∷ memory ∷ rest))
  pub typed : memory.ty ≡ ptr
  pub readable : IsReadable g.given.code h.code (function_of g.given s) memory.value
  pub begin : r.top.shape.begin < length (function_of g.given s).names
  pub slots : (own_facts g.given s).ramp_slots ≡ allocas_of (function_of g.given s)
  pub laid : IsLaidOut g s.top.func
  pub sized : (layout_of g.layouts s.top.func).size ≡ (own_frame g.given s).size
  pub roomy : 16 ≤ (own_frame g.given s).size
  pub resumes : address_of h.code r.top.shape.resume_name ≡ address_of_part g s.top.func Part.Resume
  pub destroys : address_of h.code r.top.shape.destroy_name ≡ address_of_part g s.top.func Part.Destroy
