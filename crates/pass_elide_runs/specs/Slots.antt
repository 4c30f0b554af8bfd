-- Which slots an activation has: those of the allocas that it has passed, whose names have their addresses.
use Rattle.std.specs.Prelude.{◌≡◌, ◌≢◌, ◌⊎◌, ◌<◌, ℕ, List, [], ◌∷◌, length, slice_get, Some}
use Rattle.pass_elide_proof.specs.Places.{instrs_of}
use Rattle.pass_elide_proof.specs.pass_proofs.flow_blocks.Edges.{block_edges}
use Rattle.pass_elide_proof.specs.pass_proofs.flow_solver.Paths.{IsListed}
use Rattle.pass_elide_proof.specs.pass_proofs.ir_base.declared.outcome.Outcome.{Outcome}
use Rattle.pass_elide_proof.specs.pass_proofs.ir_model.Names.{function_at, position_of}
use Rattle.pass_elide_proof.specs.pass_proofs.ir_model.Ty.{Ty}
use Rattle.pass_elide_proof.specs.pass_proofs.ir_model.declared.instr.Instr.{Instr}
use Rattle.pass_elide_proof.specs.pass_proofs.ir_model.declared.instr.Phi.{Phi}
use Rattle.pass_elide_proof.specs.pass_proofs.ir_model.declared.module.Function.{Function}
use Rattle.pass_elide_proof.specs.pass_proofs.ir_model.declared.module.Module.{Module}
use Rattle.pass_elide_proof.specs.pass_proofs.ir_parts.Contents.{result_of}
use Rattle.pass_elide_proof.specs.pass_proofs.run_laws.changed.Changed.{Each}
use Rattle.pass_elide_proof.specs.pass_proofs.run_source.declared.state.Activation.{Activation}
use Rattle.pass_elide_proof.specs.pass_proofs.run_source.declared.state.Mode.{Mode}
use Rattle.pass_elide_proof.specs.pass_proofs.run_source.declared.state.State.{State}
use Rattle.pass_elide_proof.specs.pass_proofs.run_step.Step.{phis_of}
use Rattle.pass_elide_proof.specs.pass_proofs.run_step.Values.{Env, pointer_to, value_in}
use Rattle.pass_elide_proof.specs.pass_proofs.run_step.declared.world.Slot.{Slot}

-- ---- what is asked of a function

-- an alloca of the entry block
pub record IsAllocaAt (f : Function) (place name : ℕ) : Type 0 where
  pub ty : Ty
  pub align : ℕ
  pub there : slice_get (instrs_of f 0) place ≡ Some (Instr.Alloca name ty align)

-- F1, F3: allocas stand in the entry block, to which no edge leads
pub record AllocasFirst (f : Function) : Type 0 where
  pub first : (block at name align : ℕ) (ty : Ty)
      → slice_get (instrs_of f block) at ≡ Some (Instr.Alloca name ty align) → block ≡ 0
  pub entry : (from : ℕ) → IsListed {X = ℕ × ℕ} (from, 0) (block_edges f) → ⊥

-- N1: the name of an alloca is one of the function, and nothing else gives it
pub record NamesAllocas (f : Function) : Type 0 where
  pub once : (place name block at : ℕ) (i : Instr) → IsAllocaAt f place name
      → slice_get (instrs_of f block) at ≡ Some i → result_of i ≡ Some name → (block ≡ 0) × (at ≡ place)
  pub phis : (place name block : ℕ) → IsAllocaAt f place name
      → Each (λ (p : Phi). p.result ≢ name) (phis_of (slice_get f.blocks block))
  pub low : (place name : ℕ) → IsAllocaAt f place name → name < length f.names

-- ---- an activation

-- A slot is that of an alloca that has been passed. Its name has the block's address.
pub record IsSlotOf (f : Function) (values : Env) (block at : ℕ) (z : Slot) : Type 0 where
  pub place : ℕ
  pub alloca : IsAllocaAt f place z.alloca
  pub passed : block ≡ 0 → place < at
  pub address : NamesAllocas f → value_in values z.alloca ≡ pointer_to z.block

-- one of the slots is that of an alloca
abbrev pub HasSlotOf : List Slot → ℕ → Type 0
HasSlotOf [] name = ⊥
HasSlotOf (z ∷ zs) name = (z.alloca ≡ name) ⊎ HasSlotOf zs name

pub record HasItsSlots (m : Module) (a : Activation) : Type 0 where
  pub own : Each (IsSlotOf (function_at m a.func) a.values a.block a.at) a.slots
  -- each alloca that has been passed has one
  pub made : (place name : ℕ) → IsAllocaAt (function_at m a.func) place name → (a.block ≡ 0 → place < a.at)
      → HasSlotOf a.slots name
  -- one that was resumed isn't in the entry block, and doesn't come back to it
  pub resumed : a.mode ≡ Mode.Resumed → a.block ≡ 0 → ⊥
  pub entering : (from label : ℕ) → a.mode ≡ Mode.Entering from label
      → position_of (function_at m a.func) label ≡ 0 → ⊥

-- so it is with all activations while the run goes on
abbrev pub HaveItsSlots : Module → State → Type 0
HaveItsSlots m s = s.outcome ≡ Outcome.Running → Each (HasItsSlots m) (s.top ∷ s.below)
