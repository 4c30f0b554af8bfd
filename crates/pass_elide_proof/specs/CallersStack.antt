-- What activations of the run that gives frames have by their calls, and what is asked where they return.
use Rattle.std.specs.Prelude.{◌≡◌, ◌⊎◌, ◌<◌, ℕ, false, List, [], ◌∷◌, length, slice_get, None, Some, Option}
use Rattle.pass_elide_proof.specs.Callers.{IsNotEntering, KeepsHandles}
use Rattle.pass_elide_proof.specs.Elision.{Elision, function_in, rooms}
use Rattle.pass_elide_proof.specs.Invariant.{IsSiteOf, StandsAt, behind}
use Rattle.pass_elide_proof.specs.Places.{instrs_of, own_at}
use Rattle.pass_proofs.specs.ir_base.declared.outcome.Outcome.{Outcome}
use Rattle.pass_proofs.specs.ir_model.declared.instr.Instr.{Instr}
use Rattle.pass_proofs.specs.ir_model.declared.instr.Terminator.{Terminator}
use Rattle.pass_proofs.specs.ir_model.declared.module.Block.{Block}
use Rattle.pass_proofs.specs.ir_model.declared.module.Function.{Function}
use Rattle.pass_proofs.specs.ir_model.declared.operand.Arg.{Arg}
use Rattle.pass_proofs.specs.ir_model.declared.operand.Operand.{Operand}
use Rattle.pass_proofs.specs.ir_parts.Contents.{result_of}
use Rattle.pass_proofs.specs.ir_paths.declared.point.Point.{Point}
use Rattle.pass_proofs.specs.run_framed.Framed.{begin_name}
use Rattle.pass_proofs.specs.run_laws.changed.Changed.{Each}
use Rattle.pass_proofs.specs.run_memory.declared.pointer.Value.{Value}
use Rattle.pass_proofs.specs.run_source.State.{frame_address_of}
use Rattle.pass_proofs.specs.run_source.declared.state.Activation.{Activation}
use Rattle.pass_proofs.specs.run_source.declared.state.Instance.{Instance}
use Rattle.pass_proofs.specs.run_source.declared.state.Mode.{Mode}
use Rattle.pass_proofs.specs.run_source.declared.state.State.{State}
use Rattle.pass_proofs.specs.run_step.Values.{value_in}

-- ---- each activation and the one below it

-- The one below called it by an instruction, behind which it stands. It has room for the result. By a site it gave its
-- alloca's address.
pub record IsCalledBy (e : Elision) (d b : Activation) : Type 0 where
  pub call : Point
  pub instr : Instr
  pub there : slice_get (instrs_of (function_in e b.func) call.block) call.at ≡ Some instr
  pub stands : StandsAt e b (behind call)
  pub result : d.result ≡ result_of instr
  pub room : (v : ℕ) → d.result ≡ Some v → v < length b.values
  pub given : (name : ℕ) → IsSiteOf e b.func call instr name → d.mode ≡ Mode.GivenRamp (value_in b.values name)

-- so it is of each, unless it gives no result
abbrev pub AreCalledBy : Elision → List Activation → Type 0
AreCalledBy e [] = Unit {0}
AreCalledBy e (d ∷ []) = Unit {0}
AreCalledBy e (d ∷ b ∷ below) = ((d.result ≡ None) ⊎ IsCalledBy e d b) × AreCalledBy e (b ∷ below)

-- A ramp that was given its frame has begun there. Begin's value is its address.
pub record HasBegunIn (e : Elision) (instances : List Instance) (c : Activation) : Type 0 where
  pub frame : (frame : Value) (number : ℕ) (x : Instance) → c.mode ≡ Mode.GivenRamp frame
      → c.instance ≡ Some number → slice_get instances number ≡ Some x → frame ≡ frame_address_of x
  pub value : (frame : Value) (number v : ℕ) → c.mode ≡ Mode.GivenRamp frame → c.instance ≡ Some number
      → begin_name (function_in e c.func) ≡ Some v → value_in c.values v ≡ frame

pub record AreCalled (e : Elision) (t : State) : Type 0 where
  pub calls : AreCalledBy e (t.top ∷ t.below)
  pub begun : Each (HasBegunIn e t.instances) (t.top ∷ t.below)

-- ---- rets

-- it is begin's value
abbrev pub GivesBegin : Function → Option Arg → Type 0
GivesBegin f None = ⊥
GivesBegin f (Some arg) = (v : ℕ) × (begin_name f ≡ Some v) × (arg.value ≡ Operand.Local v)

-- Each ret of the coroutine gives begin's value, as `rets_give_frame` says of the source.
pub record ReturnsFrame (f : Function) : Type 0 where
  pub each : (at : ℕ) (b : Block) (value : Option Arg) → slice_get f.blocks at ≡ Some b
      → b.term ≡ Terminator.Ret value → GivesBegin f value

-- The activation is at a ret, and wasn't resumed. A coroutine that was given its frame returns it.
pub record StandsAtRet (e : Elision) (t : State) : Type 0 where
  pub runs : t.outcome ≡ Outcome.Running
  pub block : Block
  pub has_block : slice_get (function_in e t.top.func).blocks t.top.block ≡ Some block
  pub stands : t.top.at ≡ own_at (rooms e t.top.func) (function_in e t.top.func) t.top.block (length block.instrs)
  pub value : Option Arg
  pub term : block.term ≡ Terminator.Ret value
  pub called : t.top.mode ≡ Mode.Resumed → ⊥
  pub mode : IsNotEntering t.top
  pub frames : (frame : Value) → t.top.mode ≡ Mode.GivenRamp frame → ReturnsFrame (function_in e t.top.func)

-- each function that is no coroutine destroys its handles
abbrev pub KeepAllHandles : Elision → Type 0
KeepAllHandles e = (func : ℕ) → (function_in e func).coroutine ≡ false → KeepsHandles e func

-- what the topmost activation returns isn't begin's value of the one below it
abbrev pub ReturnsApart : Elision → State → Type 0
ReturnsApart e t =
    (b : Activation) (rest : List Activation) → t.below ≡ b ∷ rest → (w : ℕ)
    → begin_name (function_in e b.func) ≡ Some w → t.top.result ≡ Some w → ⊥
