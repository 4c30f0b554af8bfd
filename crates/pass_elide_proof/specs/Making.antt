-- Instructions by which both runs make a block: what is asked of the place at which they stand.
use Rattle.std.specs.Prelude.{◌≡◌, ◌<◌, ◌^◌, ℕ, Bool, true, List, ◌∷◌, length, Option}
use Rattle.elide_shape.specs.Calls.{deals}
use Rattle.elide_shape.specs.declared.calls.Dealing.{Dealing}
use Rattle.pass_elide_proof.specs.Elision.{Elision}
use Rattle.pass_elide_proof.specs.Ordinary.{IsAtOwn}
use Rattle.pass_proofs.specs.ir_base.declared.outcome.Word.{Word}
use Rattle.pass_proofs.specs.ir_model.Layout.{size_of}
use Rattle.pass_proofs.specs.ir_model.Ty.{Ty}
use Rattle.pass_proofs.specs.ir_model.declared.instr.Instr.{Instr}
use Rattle.pass_proofs.specs.ir_model.declared.operand.Allocator.{Allocator}
use Rattle.pass_proofs.specs.ir_model.declared.operand.Arg.{Arg}
use Rattle.pass_proofs.specs.ir_model.declared.operand.Callee.{Callee}
use Rattle.pass_proofs.specs.run_laws.changed.Changed.{Each}
use Rattle.pass_proofs.specs.run_memory.declared.block.MemoryBlock.{MemoryBlock}
use Rattle.pass_proofs.specs.run_memory.declared.pointer.Value.{Value}
use Rattle.pass_proofs.specs.run_source.declared.state.Activation.{Activation}
use Rattle.pass_proofs.specs.run_source.declared.state.Mode.{Mode}
use Rattle.pass_proofs.specs.run_source.declared.state.State.{State}
use Rattle.pass_proofs.specs.run_step.Step.{is_alignment}
use Rattle.pass_proofs.specs.run_step.Values.{arg_values, nth}
use Rattle.pass_proofs.specs.run_step.declared.world.Slot.{Slot}

-- the activation's slots lead to blocks that there are
abbrev pub HasSlotsIn : List MemoryBlock → Activation → Type 0
HasSlotsIn m a = Each (λ (z : Slot). z.block < length m) a.slots

-- so it is of each activation
abbrev pub HaveSlots : State → Type 0
HaveSlots s = Each (HasSlotsIn s.world.memory) (s.top ∷ s.below)

-- the activation doesn't execute its allocas again
abbrev pub IsNotEntering : Mode → Type 0
IsNotEntering (Mode.Entering from label) = ⊥
IsNotEntering _ = Unit {0}

-- an alloca of a function, which isn't executed again
pub record IsAtAlloca (e : Elision) (s t : State) (name : ℕ) (ty : Ty) (align : ℕ) : Type 0 where
  pub own : IsAtOwn e s t (Instr.Alloca name ty align)
  pub slots : HaveSlots s
  pub mode : IsNotEntering s.top.mode
  pub small : size_of e.code ty < 2 ^ 64
  pub aligned : is_alignment align ≡ true

-- a call of an allocator, by which both runs allocate
pub record IsAtAllocator (e : Elision) (s t : State) (a : Allocator) (result : Option ℕ) (must_tail : Bool)
    (ty : Option Ty) (args : List Arg) : Type 0 where
  pub own : IsAtOwn e s t (Instr.Call result must_tail ty (Callee.Allocator a) args)
  pub slots : HaveSlots s
  pub allocates : deals Dealing.Allocates a ≡ true
  pub word : Word
  pub size : nth (arg_values e.code s.top.values args) 0 ≡ Value.Int word
  pub small : word.bits < 2 ^ 64
