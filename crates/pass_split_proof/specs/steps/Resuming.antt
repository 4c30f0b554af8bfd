-- A resume or a destroy in both runs: what is asked of the framed module and of its parts.
use Rattle.std.specs.Prelude.{◌≡◌, ℕ, ◌<◌, Bool, false, List, ◌∷◌, Option, Some, length}
use Rattle.pass_proofs.specs.ir_base.declared.outcome.Outcome.{Outcome}
use Rattle.pass_proofs.specs.ir_model.Names.{function_at}
use Rattle.pass_proofs.specs.ir_model.Ty.{Ty, ptr}
use Rattle.pass_proofs.specs.ir_model.declared.instr.Instr.{Instr}
use Rattle.pass_proofs.specs.ir_model.declared.operand.Arg.{Arg}
use Rattle.pass_proofs.specs.ir_model.declared.operand.Callee.{Callee}
use Rattle.pass_proofs.specs.ir_model.declared.operand.Intrinsic.{Intrinsic}
use Rattle.pass_proofs.specs.ir_model.declared.operand.Operand.{Operand}
use Rattle.pass_proofs.specs.pass_intrinsics.declared.shape.Part.{Part}
use Rattle.pass_split_proof.specs.places.Places.{IsPlace, StartsWithEnd}
use Rattle.pass_split_proof.specs.states.Activations.{is_entering}
use Rattle.pass_split_proof.specs.states.Instances.{part_position, shape_at}
use Rattle.pass_split_proof.specs.states.Related.{AreRelated}
use Rattle.pass_split_proof.specs.steps.Calling.{TakesPointer}
use Rattle.pass_split_proof.specs.steps.Operands.{IsReadable}
use Rattle.pass_split_proof.specs.steps.Woken.{IsWaking, IsWoken}
use Rattle.pass_proofs.specs.run_framed.Framed.{FramedGiven}
use Rattle.pass_proofs.specs.run_memory.declared.pointer.Value.{Value}
use Rattle.run_access_worked.specs.run_plain.Plain.{PlainGiven}
use Rattle.run_access_worked.specs.run_plain.declared.state.PlainState.{PlainState}
use Rattle.pass_proofs.specs.run_source.State.{function_of}
use Rattle.pass_proofs.specs.run_source.declared.state.State.{State}
use Rattle.pass_proofs.specs.run_step.Step.{AtInstr, fetch}

-- The framed run is at a call of one of the two with an address, and the part is at the same place. The address may be
-- read in the part.
pub record IsAtWaking (g : FramedGiven) (h : PlainGiven) (s : State) (t : PlainState) (r : AreRelated g h s t)
    (x : Intrinsic) : Type 0 where
  pub running : s.outcome ≡ Outcome.Running
  pub settled : is_entering s.top.mode ≡ false
  pub place : IsPlace r.top.shape r.top.part (function_of g.given s) (function_at h.code t.top.func) s.top.block
      s.top.at t.top.block t.top.at
  pub result : Option ℕ
  pub must_tail : Bool
  pub ty : Option Ty
  pub arg : Arg
  pub rest : List Arg
  pub there : fetch (function_of g.given s) s.top.block s.top.at ≡ AtInstr (Instr.Call result must_tail ty
      (Callee.Intrinsic x) (arg ∷ rest))
  pub typed : arg.ty ≡ ptr
  pub readable : IsReadable g.given.code h.code (function_of g.given s) arg.value
  pub known : (v : ℕ) → arg.value ≡ Operand.Local v → v < length (function_of g.given s).names
  pub begin : (i : ℕ) → s.top.instance ≡ Some i → r.top.shape.begin < length (function_of g.given s).names

-- each Suspended instance whose frame has an address goes on in the part that the header names
pub record CanWake (g : FramedGiven) (h : PlainGiven) (s : State) (t : PlainState) (p : Value) (w : IsWoken s p)
    (part : Part) (label : ℕ) : Type 0 where
  pub waking : IsWaking g h.code s t.world.memory p w part label
  pub takes : TakesPointer h (part_position g w.instance.coroutine part)
  pub ends : StartsWithEnd (function_at g.given.code w.instance.coroutine) (shape_at g w.instance.coroutine).end
