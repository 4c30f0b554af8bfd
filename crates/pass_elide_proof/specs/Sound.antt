-- What each state of a framed run has in which callees may be given frames, where no frame lies in another one.
use Rattle.std.specs.Prelude.{◌≡◌, ℕ, true, false, List, ◌∷◌, slice_get, Some}
use Rattle.pass_elide_proof.specs.Beginning.{IsKnownTo}
use Rattle.pass_proofs.specs.frame_layout.declared.layout.PlacedField.{PlacedField}
use Rattle.pass_proofs.specs.ir_model.Names.{function_at}
use Rattle.pass_proofs.specs.ir_model.Ty.{Ty}
use Rattle.pass_proofs.specs.ir_model.declared.instr.Instr.{Instr}
use Rattle.pass_proofs.specs.run_framed.Framed.{FramedGiven, is_frame_kind, is_stack_block, layout_of}
use Rattle.pass_proofs.specs.run_laws.changed.Changed.{Each}
use Rattle.pass_proofs.specs.run_memory.declared.block.Kind.{Kind}
use Rattle.pass_proofs.specs.run_memory.declared.block.MemoryBlock.{MemoryBlock}
use Rattle.pass_proofs.specs.run_memory.declared.pointer.Value.{Value}
use Rattle.pass_proofs.specs.run_source.Source.{is_among}
use Rattle.pass_proofs.specs.run_source.State.{is_finished}
use Rattle.pass_proofs.specs.run_source.declared.state.Activation.{Activation}
use Rattle.pass_proofs.specs.run_source.declared.state.Instance.{Instance}
use Rattle.pass_proofs.specs.run_source.declared.state.Mode.{Mode}
use Rattle.pass_proofs.specs.run_source.declared.state.State.{State}
use Rattle.pass_proofs.specs.run_source_tables.Given.{facts_at}
use Rattle.pass_proofs.specs.run_step.Step.{AtInstr, fetch}
use Rattle.pass_proofs.specs.run_step.declared.world.Slot.{Slot}

-- ---- what is asked of the module and its layouts

-- each alloca of a function is among its facts
abbrev pub KnowsAllocas : FramedGiven → Type 0
KnowsAllocas g =
    (func block at name align b : ℕ) (ty : Ty)
    → fetch (function_at g.given.code func) block at ≡ AtInstr (Instr.Alloca name ty align)
    → is_among (facts_at g.given.facts func).ramp_slots (record { alloca = name; block = b }) ≡ true

-- no frame has room for another one
abbrev pub NestsNone : FramedGiven → Type 0
NestsNone g = (func : ℕ) → Each (λ (y : PlacedField). is_frame_kind y.kind ≡ false) (layout_of g.layouts func).fields

-- ---- states

-- an instance that begins a block and isn't Finished
pub record IsOwner (xs : List Instance) (b : ℕ) : Type 0 where
  pub number : ℕ
  pub instance : Instance
  pub there : slice_get xs number ≡ Some instance
  pub block : instance.block ≡ b
  pub goes : is_finished instance.status ≡ false

-- Frames begin their blocks, and a stack block is owned by an instance that isn't Finished.
pub record OwnTheirBlocks (m : List MemoryBlock) (xs : List Instance) : Type 0 where
  pub starts : (i : ℕ) (x : Instance) → slice_get xs i ≡ Some x → x.start ≡ 0
  pub owners : (b n : ℕ) (z : MemoryBlock) → slice_get m b ≡ Some z → z.kind ≡ Kind.Stack → z.owned ≡ Some n
      → IsOwner xs b

-- An activation has slots of allocas of its function, and an instance that there is, which is one of its function. A
-- ramp that was given its frame has begun there.
pub record IsSoundAct (g : FramedGiven) (m : List MemoryBlock) (xs : List Instance) (a : Activation) : Type 0 where
  pub known : IsKnownTo xs a
  pub coroutine : (i : ℕ) (x : Instance) → a.instance ≡ Some i → slice_get xs i ≡ Some x → x.coroutine ≡ a.func
  pub own : Each (λ (z : Slot). is_among (facts_at g.given.facts a.func).ramp_slots z ≡ true) a.slots
  pub given : (frame : Value) (i : ℕ) (x : Instance) → a.mode ≡ Mode.GivenRamp frame → a.instance ≡ Some i
      → slice_get xs i ≡ Some x → is_stack_block m x.block ≡ true

pub record AreSound (g : FramedGiven) (m : List MemoryBlock) (xs : List Instance) (stack : List Activation) : Type 0
  where
    pub blocks : OwnTheirBlocks m xs
    pub acts : Each (IsSoundAct g m xs) stack

abbrev pub IsSoundState : FramedGiven → State → Type 0
IsSoundState g s = AreSound g s.world.memory s.instances (s.top ∷ s.below)
