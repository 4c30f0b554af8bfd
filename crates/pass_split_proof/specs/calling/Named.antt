-- A call of a defined function by its name, which the framed run and its part are at.
use Rattle.std.specs.Prelude.{◌≡◌, ℕ, false, List, Option, None, Some}
use Rattle.pass_proofs.specs.ir_base.declared.name.Name.{Name}
use Rattle.pass_proofs.specs.ir_model.Names.{function_at, function_named}
use Rattle.pass_proofs.specs.ir_model.Ty.{Ty}
use Rattle.pass_proofs.specs.ir_model.declared.instr.Instr.{Instr}
use Rattle.pass_proofs.specs.ir_model.declared.operand.Arg.{Arg}
use Rattle.pass_proofs.specs.ir_model.declared.operand.Callee.{Callee}
use Rattle.pass_proofs.specs.pass_intrinsics.declared.shape.Part.{Part}
use Rattle.pass_split_proof.specs.places.Places.{IsPlace}
use Rattle.pass_split_proof.specs.states.Activations.{is_entering}
use Rattle.pass_split_proof.specs.states.Instances.{part_position}
use Rattle.pass_split_proof.specs.states.Related.{AreRelated}
use Rattle.pass_split_proof.specs.steps.Calls.{IsCallee}
use Rattle.pass_split_proof.specs.steps.Operands.{IsReadable}
use Rattle.pass_proofs.specs.run_framed.Framed.{FramedGiven, given_ramp}
use Rattle.pass_proofs.specs.run_laws.changed.Changed.{Each, values_of}
use Rattle.run_access_worked.specs.run_plain.Plain.{PlainGiven}
use Rattle.run_access_worked.specs.run_plain.declared.state.PlainState.{PlainState}
use Rattle.pass_proofs.specs.run_source.State.{function_of}
use Rattle.pass_proofs.specs.run_source.declared.state.State.{State}
use Rattle.pass_proofs.specs.run_step.Step.{AtInstr, fetch}

-- The framed run is at a call of a function or of a ramp, which isn't given its frame, and the part is at the same place.
-- The name is that of the function's first part there. The arguments may be read in the part, and the name of the frame
-- isn't set.
pub record IsAtCall (g : FramedGiven) (h : PlainGiven) (s : State) (t : PlainState) (r : AreRelated g h s t)
    : Type 0 where
  pub settled : is_entering s.top.mode ≡ false
  pub place : IsPlace r.top.shape r.top.part (function_of g.given s) (function_at h.code t.top.func) s.top.block
      s.top.at t.top.block t.top.at
  pub result : Option ℕ
  pub ty : Option Ty
  pub name : Name
  pub args : List Arg
  pub there : fetch (function_of g.given s) s.top.block s.top.at ≡ AtInstr (Instr.Call result false ty
      (Callee.Named name) args)
  pub func : ℕ
  pub calls : function_named g.given.code name ≡ Some func
  pub moves : function_named h.code name ≡ Some (part_position g func Part.Ramp)
  pub ungiven : given_ramp g.given.code name ≡ None
  pub callee : IsCallee g h.code func
  pub readable : Each (IsReadable g.given.code h.code (function_of g.given s)) (values_of args)
  pub others : result ≡ Some r.top.shape.begin → ⊥
