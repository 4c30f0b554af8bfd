-- What related states know of frames that callers give: the relation of states doesn't say it.
use Rattle.std.specs.Prelude.{◌≡◌, ℕ, Bool, true, false, List, [], ◌∷◌, Option, Some, slice_get}
use Rattle.pass_proofs.specs.ir_model.Names.{function_at}
use Rattle.pass_proofs.specs.pass_intrinsics.Shapes.{given_name}
use Rattle.pass_proofs.specs.pass_intrinsics.declared.shape.Part.{Part}
use Rattle.pass_proofs.specs.pass_split.Given.{has_given_call}
use Rattle.pass_split_proof.specs.code.Positions.{is_given}
use Rattle.pass_split_proof.specs.states.Instances.{is_given_in, part_position, shape_at}
use Rattle.pass_split_proof.specs.states.Memories.{homes_of}
use Rattle.pass_proofs.specs.run_framed.Framed.{FramedGiven}
use Rattle.pass_proofs.specs.run_laws.memory.Pointers.{IsValue}
use Rattle.pass_proofs.specs.run_memory.declared.block.MemoryBlock.{MemoryBlock}
use Rattle.pass_proofs.specs.run_memory.declared.pointer.Value.{Value}
use Rattle.run_access_worked.specs.run_plain.declared.state.PlainActivation.{PlainActivation}
use Rattle.run_access_worked.specs.run_plain.declared.state.PlainState.{PlainState}
use Rattle.pass_proofs.specs.run_source.declared.state.Activation.{Activation}
use Rattle.pass_proofs.specs.run_source.declared.state.Instance.{Instance}
use Rattle.pass_proofs.specs.run_source.declared.state.Mode.{Mode}
use Rattle.pass_proofs.specs.run_source.declared.state.State.{State}
use Rattle.pass_proofs.specs.run_step.Values.{Env, value_in}

-- ---- activations

-- A part that a resume calls is for all instances. Each other part is for those whose frames were given, or for the
-- others.
abbrev pub is_for_some : Part → Bool
is_for_some Part.Resume = false
is_for_some part = true

-- What a ramp was given stands for the last parameter of its part, the function at a position, and some call gives
-- frames to its coroutine. The instance of an activation was given its frame exactly if its part is for such instances.
pub record KnowsFrame (g : FramedGiven) (xs : List Instance) (m : List MemoryBlock) (func : ℕ) (mode : Mode)
    (instance : Option ℕ) (position : ℕ) (values : Env) : Type 0 where
  pub given : (frame : Value) → mode ≡ Mode.GivenRamp frame
      → IsValue (homes_of m) frame (value_in values (given_name (shape_at g func)))
  pub calls : (frame : Value) → mode ≡ Mode.GivenRamp frame
      → has_given_call g.given.code (function_at g.given.code func) ≡ true
  pub runs : (part : Part) (i : ℕ) (x : Instance) → position ≡ part_position g func part → is_for_some part ≡ true
      → instance ≡ Some i → slice_get xs i ≡ Some x → is_given_in (slice_get m x.block) x ≡ is_given part

-- an activation that waits isn't given what it called for by the name of that parameter
abbrev pub LeavesGiven : FramedGiven → (result : Option ℕ) → (func : ℕ) → Mode → Type 0
LeavesGiven g result func mode = (frame : Value) → mode ≡ Mode.GivenRamp frame
    → result ≡ Some (given_name (shape_at g func)) → ⊥

-- so it is with each two that wait, the nearest first
abbrev pub KnowFrames : FramedGiven → List Instance → List MemoryBlock → (result : Option ℕ) → List Activation
    → List PlainActivation → Type 0
KnowFrames g xs m result [] bs = Unit {0}
KnowFrames g xs m result (a ∷ rest) [] = Unit {0}
KnowFrames g xs m result (a ∷ rest) (b ∷ bs) =
    KnowsFrame g xs m a.func a.mode a.instance b.func b.values
    × (LeavesGiven g result a.func a.mode × KnowFrames g xs m a.result rest bs)

-- ---- instances

-- a call gives frames to the coroutine of each instance that was given one
abbrev pub KnowCalls : FramedGiven → List Instance → List MemoryBlock → Type 0
KnowCalls g xs m = (i : ℕ) (x : Instance) → slice_get xs i ≡ Some x → is_given_in (slice_get m x.block) x ≡ true
    → has_given_call g.given.code (function_at g.given.code x.coroutine) ≡ true

-- ---- states

abbrev pub KnowsGiven : FramedGiven → State → PlainState → Type 0
KnowsGiven g s t =
    (KnowsFrame g s.instances s.world.memory s.top.func s.top.mode s.top.instance t.top.func t.top.values
    × KnowFrames g s.instances s.world.memory s.top.result s.below t.below)
    × KnowCalls g s.instances s.world.memory
