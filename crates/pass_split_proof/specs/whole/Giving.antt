-- What is asked at each place of framed runs in which calls give frames.
use Rattle.std.specs.Prelude.{◌≡◌, ℕ, ◌<◌, ◌^◌, Bool, true, false, List, Option, Some, slice_get}
use Rattle.pass_proofs.specs.ir_base.declared.name.Name.{Name}
use Rattle.pass_proofs.specs.ir_base.declared.outcome.Word.{Word}
use Rattle.pass_proofs.specs.ir_model.Ty.{Ty}
use Rattle.pass_proofs.specs.ir_model.declared.instr.Instr.{Instr}
use Rattle.pass_proofs.specs.ir_model.declared.operand.Arg.{Arg}
use Rattle.pass_proofs.specs.ir_model.declared.operand.Callee.{Callee}
use Rattle.pass_proofs.specs.ir_model.declared.operand.Intrinsic.{Intrinsic}
use Rattle.pass_proofs.specs.pass_intrinsics.Shapes.{given_name}
use Rattle.pass_proofs.specs.pass_intrinsics.declared.shape.Part.{Part}
use Rattle.pass_proofs.specs.pass_split.Given.{has_given_call}
use Rattle.pass_proofs.specs.run_framed.Framed.{FramedGiven, given_ramp, is_given}
use Rattle.pass_proofs.specs.run_laws.memory.Pointers.{IsValue}
use Rattle.pass_proofs.specs.run_memory.declared.pointer.Value.{Value}
use Rattle.pass_proofs.specs.run_source.State.{function_of, is_finished}
use Rattle.pass_proofs.specs.run_source.declared.state.Instance.{Instance}
use Rattle.pass_proofs.specs.run_source.declared.state.Mode.{Mode}
use Rattle.pass_proofs.specs.run_source.declared.state.State.{State}
use Rattle.pass_proofs.specs.run_step.Step.{AtInstr, Fetched, block_of, fetch}
use Rattle.pass_proofs.specs.run_step.Values.{arg_values, nth, value_in}
use Rattle.pass_split_proof.specs.given_begins.Beginning.{IsAtGivenBegin}
use Rattle.pass_split_proof.specs.given_calls.Calling.{IsAtGivenCall}
use Rattle.pass_split_proof.specs.making.Blocks.{allocates}
use Rattle.pass_split_proof.specs.simulation.Premises.{IsAt, IsAtPlace}
use Rattle.pass_split_proof.specs.states.Memories.{homes_of}
use Rattle.pass_split_proof.specs.states.Related.{AreRelated}
use Rattle.run_access_worked.specs.run_plain.Plain.{PlainGiven}
use Rattle.run_access_worked.specs.run_plain.declared.state.PlainState.{PlainState}

-- ---- of states

-- where the run is at a start, each instance whose frame lies in the block that starts is Finished
abbrev pub StartsNoFrame : FramedGiven → State → Fetched → Type 0
StartsNoFrame g s (AtInstr (Instr.Call result must_tail ty (Callee.Intrinsic Intrinsic.LifetimeStart) args)) =
    (b i : ℕ) (x : Instance) → block_of (nth (arg_values g.given.code s.top.values args) 1) ≡ Some b
    → slice_get s.instances i ≡ Some x → x.block ≡ b → is_finished x.status ≡ true
StartsNoFrame g s _ = Unit {0}

-- where the run is at a save, its instance isn't Finished if its frame was given
abbrev pub SavesUnfinished : FramedGiven → State → Fetched → Type 0
SavesUnfinished g s (AtInstr (Instr.Call result must_tail ty (Callee.Intrinsic Intrinsic.CoroSave) args)) =
    (i : ℕ) (x : Instance) → s.top.instance ≡ Some i → slice_get s.instances i ≡ Some x
    → is_given s.world.memory x ≡ true → is_finished x.status ≡ false
SavesUnfinished g s _ = Unit {0}

-- where the run is at an allocator, it asks for less than 2^64 bytes
abbrev pub AsksSmall : FramedGiven → State → Fetched → Type 0
AsksSmall g s (AtInstr (Instr.Call result must_tail ty (Callee.Allocator a) args)) =
    allocates a ≡ true → (x : Word) → nth (arg_values g.given.code s.top.values args) 0 ≡ Value.Int x
    → x.bits < 2 ^ 64
AsksSmall g s _ = Unit {0}

-- what stands at the place of a state
abbrev pub here_of : FramedGiven → State → Fetched
here_of g s = fetch (function_of g.given s) s.top.block s.top.at

-- ---- of modules

-- What is asked of the instruction at the same place of both runs, where calls give frames. What is known of a ramp that
-- was given its frame comes as an argument: its part's last parameter has that, and some call gives frames to it.
pub record AreGivenPlacesMet (g : FramedGiven) (h : PlainGiven) (s : State) (t : PlainState) (r : AreRelated g h s t)
    : Type 0 where
  pub called : (result : Option ℕ) (must_tail : Bool) (ty : Option Ty) (name : Name) (args : List Arg) (func : ℕ)
      → IsAt g s (AtInstr (Instr.Call result must_tail ty (Callee.Named name) args)) → IsAtPlace g h s t r
      → given_ramp g.given.code name ≡ Some func → IsAtGivenCall g h s t r
  pub begin : (result : Option ℕ) (must_tail : Bool) (ty : Option Ty) (args : List Arg) (frame : Value)
      → IsAt g s (AtInstr (Instr.Call result must_tail ty (Callee.Intrinsic Intrinsic.CoroBegin) args))
      → IsAtPlace g h s t r → s.top.mode ≡ Mode.GivenRamp frame
      → IsValue (homes_of s.world.memory) frame (value_in t.top.values (given_name r.top.shape))
      → has_given_call g.given.code (function_of g.given s) ≡ true → IsAtGivenBegin g h s t r
  -- a part that a resume calls has no release, where a call gives frames to the coroutine
  pub frees : (result : Option ℕ) (must_tail : Bool) (ty : Option Ty) (args : List Arg)
      → IsAt g s (AtInstr (Instr.Call result must_tail ty (Callee.Intrinsic Intrinsic.CoroFree) args))
      → IsAtPlace g h s t r → r.top.part ≡ Part.Resume
      → has_given_call g.given.code (function_of g.given s) ≡ false
