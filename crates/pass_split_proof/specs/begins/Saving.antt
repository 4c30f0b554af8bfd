-- A save that the framed run is at, and its part too.
use Rattle.std.specs.Prelude.{◌≡◌, ℕ, ◌<◌, Bool, true, false, List, Option, Some, length, slice_get}
use Rattle.pass_proofs.specs.ir_model.Names.{function_at}
use Rattle.pass_proofs.specs.ir_model.Ty.{Ty}
use Rattle.pass_proofs.specs.ir_model.declared.instr.Instr.{Instr}
use Rattle.pass_proofs.specs.ir_model.declared.operand.Arg.{Arg}
use Rattle.pass_proofs.specs.ir_model.declared.operand.Callee.{Callee}
use Rattle.pass_proofs.specs.ir_model.declared.operand.Intrinsic.{Intrinsic}
use Rattle.pass_proofs.specs.ir_paths.Windows.{suspend_of}
use Rattle.pass_proofs.specs.ir_paths.declared.point.Point.{Point}
use Rattle.pass_proofs.specs.pass_intrinsics.declared.shape.Part.{Part}
use Rattle.pass_proofs.specs.split.rules.Reached.{IsLedTo}
use Rattle.pass_split_proof.specs.code.Numbers.{IsNumbered}
use Rattle.pass_split_proof.specs.places.Places.{IsPlace}
use Rattle.pass_split_proof.specs.states.Activations.{is_entering}
use Rattle.pass_split_proof.specs.states.Instances.{IsLaidOut, address_of_part, is_held}
use Rattle.pass_split_proof.specs.states.Related.{AreRelated}
use Rattle.pass_proofs.specs.rule_laws.frames.replaced.Parted.{IsSmall}
use Rattle.pass_proofs.specs.run_framed.Framed.{FramedGiven}
use Rattle.run_access_worked.specs.run_plain.Plain.{PlainGiven}
use Rattle.run_access_worked.specs.run_plain.declared.state.PlainState.{PlainState}
use Rattle.pass_proofs.specs.run_source.State.{function_of}
use Rattle.pass_proofs.specs.run_source.declared.state.Instance.{Instance}
use Rattle.pass_proofs.specs.run_source.declared.state.State.{State}
use Rattle.pass_proofs.specs.run_step.Step.{AtInstr, fetch}
use Rattle.pass_proofs.specs.run_step.Values.{address_of}

-- The framed run is at a save of a coroutine, and the part is at the same place. A path leads to the save's suspend. The
-- frame is there unless it is freed, and the part that a resume calls is found by its name.
pub record IsAtSave (g : FramedGiven) (h : PlainGiven) (s : State) (t : PlainState) (r : AreRelated g h s t)
    : Type 0 where
  pub coroutine : (function_of g.given s).coroutine ≡ true
  pub settled : is_entering s.top.mode ≡ false
  pub place : IsPlace r.top.shape r.top.part (function_of g.given s) (function_at h.code t.top.func) s.top.block
      s.top.at t.top.block t.top.at
  pub result : ℕ
  pub must_tail : Bool
  pub ty : Option Ty
  pub args : List Arg
  pub there : fetch (function_of g.given s) s.top.block s.top.at ≡ AtInstr (Instr.Call (Some result) must_tail ty
      (Callee.Intrinsic Intrinsic.CoroSave) args)
  pub begin : r.top.shape.begin < length (function_of g.given s).names
  pub small : IsSmall r.top.shape
  pub laid : IsLaidOut g s.top.func
  pub led : (p : Point) (number : ℕ)
      → suspend_of (function_of g.given s) (record { block = s.top.block; at = s.top.at }) ≡ Some p
      → (numbered : IsNumbered (function_of g.given s) p number) → IsLedTo (function_of g.given s)
      numbered.suspend.block
  pub held : (i : ℕ) (x : Instance) → s.top.instance ≡ Some i → slice_get s.instances i ≡ Some x → x.freed ≡ false
      → is_held s.world.memory x ≡ true
  pub named : address_of h.code r.top.shape.resume_name ≡ address_of_part g s.top.func Part.Resume
