-- Of which kind slots of coroutines are.
use Rattle.std.specs.Prelude.{◌≡◌, ◌<◌, true, false, List, ◌∷◌, length}
use Rattle.pass_elide_proof.specs.pass_proofs.ir_model.Names.{function_at}
use Rattle.pass_elide_proof.specs.pass_proofs.ir_model.declared.module.Module.{Module}
use Rattle.pass_elide_proof.specs.pass_proofs.run_framed.Framed.{is_stack_block}
use Rattle.pass_elide_proof.specs.pass_proofs.run_laws.changed.Changed.{Each}
use Rattle.pass_elide_proof.specs.pass_proofs.run_memory.declared.block.MemoryBlock.{MemoryBlock}
use Rattle.pass_elide_proof.specs.pass_proofs.run_source.declared.state.Activation.{Activation}
use Rattle.pass_elide_proof.specs.pass_proofs.run_source.declared.state.State.{State}
use Rattle.pass_elide_proof.specs.pass_proofs.run_step.declared.world.Slot.{Slot}

-- the block of a slot is there, and is no stack block
pub record IsSlotKind (memory : List MemoryBlock) (z : Slot) : Type 0 where
  pub there : z.block < length memory
  pub kind : is_stack_block memory z.block ≡ false

-- so it is of each slot of an activation of a coroutine
abbrev pub HasSlotKinds : Module → List MemoryBlock → Activation → Type 0
HasSlotKinds m memory a = (function_at m a.func).coroutine ≡ true → Each (IsSlotKind memory) a.slots

abbrev pub HaveSlotKinds : Module → State → Type 0
HaveSlotKinds m s = Each (HasSlotKinds m s.world.memory) (s.top ∷ s.below)
