-- What is asked of a framed run in which callers give frames in stack blocks. It speaks of the framed run alone.
use Rattle.std.specs.Prelude.{◌≡◌, ℕ, true, false, List, Some, slice_get}
use Rattle.pass_proofs.specs.frame_layout.declared.layout.PlacedField.{PlacedField}
use Rattle.pass_proofs.specs.ir_base.declared.outcome.Word.{Word}
use Rattle.pass_proofs.specs.ir_model.Names.{function_at}
use Rattle.pass_split_proof.specs.states.Instances.{IsLaidOut, LiesAligned}
use Rattle.pass_proofs.specs.run_framed.Framed.{FramedGiven, framed_state_at, is_frame_kind, is_given, is_stack_block, layout_of}
use Rattle.pass_proofs.specs.run_memory.declared.block.MemoryBlock.{MemoryBlock}
use Rattle.pass_proofs.specs.run_source.State.{is_finished}
use Rattle.pass_proofs.specs.run_source.declared.state.Instance.{Instance}
use Rattle.pass_proofs.specs.run_source.declared.state.State.{State}

-- each coroutine has a layout in which header, index and open fields lie apart
abbrev pub AreAllLaidOut : FramedGiven → Type 0
AreAllLaidOut g = (func : ℕ) → (function_at g.given.code func).coroutine ≡ true → IsLaidOut g func

-- no layout has a field for a callee's frame
abbrev pub NestsNoFrames : FramedGiven → Type 0
NestsNoFrames g = (func a : ℕ) (x : PlacedField) → slice_get (layout_of g.layouts func).fields a ≡ Some x
    → is_frame_kind x.kind ≡ false

-- the frame of an instance that isn't Finished, if it was given, lies in its block as it is aligned
abbrev pub AreGivenLaid : FramedGiven → State → Type 0
AreGivenLaid g s = (i : ℕ) (x : Instance) (y : MemoryBlock) → slice_get s.instances i ≡ Some x
    → is_given s.world.memory x ≡ true → is_finished x.status ≡ false → slice_get s.world.memory x.block ≡ Some y
    → LiesAligned g x y

-- instances in one stack block began at its start, for one coroutine
abbrev pub AreBlocksOfOne : State → Type 0
AreBlocksOfOne s = (i j : ℕ) (x z : Instance) → slice_get s.instances i ≡ Some x → slice_get s.instances j ≡ Some z
    → z.block ≡ x.block → is_stack_block s.world.memory x.block ≡ true → (z.start ≡ 0) × (z.coroutine ≡ x.coroutine)

-- so it is in each state of a run
pub record GivesBlocks (g : FramedGiven) (entry : ℕ) (args : List Word) : Type 0 where
  pub laid : (n : ℕ) → AreGivenLaid g (framed_state_at g entry args n)
  pub one : (n : ℕ) → AreBlocksOfOne (framed_state_at g entry args n)
