-- A call that gives a ramp its frame, which the framed run and its part are at.
use Rattle.std.specs.Prelude.{◌≡◌, ℕ, suc, ◌<◌, ◌≤◌, true, false, List, [], ◌∷◌, ◌++◌, length, Option, Some}
use Rattle.pass_proofs.specs.ir_base.declared.name.Name.{Name}
use Rattle.pass_proofs.specs.ir_model.Names.{function_at, function_named}
use Rattle.pass_proofs.specs.ir_model.Ty.{Ty, ptr}
use Rattle.pass_proofs.specs.ir_model.declared.instr.Instr.{Instr}
use Rattle.pass_proofs.specs.ir_model.declared.module.Module.{Module}
use Rattle.pass_proofs.specs.ir_model.declared.operand.Arg.{Arg}
use Rattle.pass_proofs.specs.ir_model.declared.operand.Callee.{Callee}
use Rattle.pass_proofs.specs.pass_intrinsics.Shapes.{given_name}
use Rattle.pass_proofs.specs.pass_intrinsics.declared.shape.Part.{Part}
use Rattle.pass_split_proof.specs.places.Places.{IsCodeOf, IsPlace}
use Rattle.pass_split_proof.specs.states.Activations.{is_entering}
use Rattle.pass_split_proof.specs.states.Instances.{part_position, shape_at}
use Rattle.pass_split_proof.specs.states.Memories.{homes_of}
use Rattle.pass_split_proof.specs.states.Related.{AreRelated}
use Rattle.pass_split_proof.specs.steps.Operands.{IsReadable}
use Rattle.pass_proofs.specs.run_framed.Framed.{FramedGiven, given_ramp}
use Rattle.pass_proofs.specs.run_laws.changed.Changed.{Each, values_of}
use Rattle.pass_proofs.specs.run_laws.memory.Pointers.{IsValue}
use Rattle.pass_proofs.specs.run_memory.declared.pointer.Value.{Value}
use Rattle.run_access_worked.specs.run_plain.Plain.{PlainGiven}
use Rattle.run_access_worked.specs.run_plain.declared.state.PlainState.{PlainState}
use Rattle.pass_proofs.specs.run_source.State.{function_of}
use Rattle.pass_proofs.specs.run_source.declared.state.Mode.{Mode}
use Rattle.pass_proofs.specs.run_source.declared.state.State.{State}
use Rattle.pass_proofs.specs.run_step.Step.{AtInstr, fetch}
use Rattle.pass_proofs.specs.run_step.Values.{value_in}

-- a coroutine has at its position the ramp that is given its frame, with the frame's address behind its parameters
pub record IsGivenCallee (g : FramedGiven) (h : Module) (func : ℕ) : Type 0 where
  pub coroutine : (function_at g.given.code func).coroutine ≡ true
  pub coded : IsCodeOf (function_at g.given.code func) (function_at h (part_position g func Part.GivenRamp))
      (shape_at g func) Part.GivenRamp
  pub place : IsPlace (shape_at g func) Part.GivenRamp (function_at g.given.code func)
      (function_at h (part_position g func Part.GivenRamp)) 0 0 0 0
  pub params : (function_at h (part_position g func Part.GivenRamp)).params
      ≡ (function_at g.given.code func).params ++ record { ty = ptr; name = given_name (shape_at g func) } ∷ []
  pub names : length (function_at g.given.code func).names ≤ given_name (shape_at g func)
  pub room : given_name (shape_at g func) < length (function_at h (part_position g func Part.GivenRamp)).names

-- The framed run is at such a call, and the part is at the same place. The name is that of the ramp there. The
-- arguments are the ramp's and the frame's address, and may be read in the part. The name of the caller's frame isn't
-- set.
pub record IsAtGivenCall (g : FramedGiven) (h : PlainGiven) (s : State) (t : PlainState) (r : AreRelated g h s t)
    : Type 0 where
  pub settled : is_entering s.top.mode ≡ false
  pub place : IsPlace r.top.shape r.top.part (function_of g.given s) (function_at h.code t.top.func) s.top.block
      s.top.at t.top.block t.top.at
  pub result : Option ℕ
  pub ty : Option Ty
  pub name : Name
  pub args : List Arg
  pub there : fetch (function_of g.given s) s.top.block s.top.at ≡ AtInstr (Instr.Call result false ty
      (Callee.Named name) args)
  pub func : ℕ
  pub gives : given_ramp g.given.code name ≡ Some func
  pub moves : function_named h.code name ≡ Some (part_position g func Part.GivenRamp)
  pub callee : IsGivenCallee g h.code func
  pub many : length args ≡ suc (length (function_at g.given.code func).params)
  pub readable : Each (IsReadable g.given.code h.code (function_of g.given s)) (values_of args)
  pub others : result ≡ Some r.top.shape.begin → ⊥

-- the topmost activation was given a frame, and its part has what stands for that in the parameter for it
pub record IsGivenFrame (g : FramedGiven) (s : State) (t : PlainState) : Type 0 where
  pub frame : Value
  pub mode : s.top.mode ≡ Mode.GivenRamp frame
  pub stands : IsValue (homes_of s.world.memory) frame (value_in t.top.values (given_name (shape_at g s.top.func)))
