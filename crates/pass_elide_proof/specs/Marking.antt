-- Lifetime markers and deallocations, which both runs execute: what is asked of the place at which they stand. No frame
-- lies in the block.
use Rattle.std.specs.Prelude.{◌≡◌, ◌≢◌, ◌⊎◌, ℕ, Bool, true, List, slice_get, Some, None, Ok, Option}
use Rattle.elide_shape.specs.Calls.{deals}
use Rattle.elide_shape.specs.declared.calls.Dealing.{Dealing}
use Rattle.pass_elide_proof.specs.Elision.{Elision, elided_code}
use Rattle.pass_elide_proof.specs.Ordinary.{IsAtOwn}
use Rattle.pass_proofs.specs.ir_model.Ty.{Ty}
use Rattle.pass_proofs.specs.ir_model.declared.instr.Instr.{Instr}
use Rattle.pass_proofs.specs.ir_model.declared.operand.Allocator.{Allocator}
use Rattle.pass_proofs.specs.ir_model.declared.operand.Arg.{Arg}
use Rattle.pass_proofs.specs.ir_model.declared.operand.Callee.{Callee}
use Rattle.pass_proofs.specs.ir_model.declared.operand.Intrinsic.{Intrinsic}
use Rattle.pass_proofs.specs.run_memory.declared.block.MemoryBlock.{MemoryBlock}
use Rattle.pass_proofs.specs.run_memory.declared.pointer.Value.{Value}
use Rattle.pass_proofs.specs.run_source.declared.state.Instance.{Instance}
use Rattle.pass_proofs.specs.run_source.declared.state.State.{State}
use Rattle.pass_proofs.specs.run_step.Step.{block_of, deallocated}
use Rattle.pass_proofs.specs.run_step.Values.{address, arg_values, nth}

-- no instance of these lies in the block into which a pointer leads
abbrev pub HoldsNoFrame : List Instance → Value → Type 0
HoldsNoFrame instances p =
    (b i : ℕ) (x : Instance) → block_of p ≡ Some b → slice_get instances i ≡ Some x → x.block ≢ b

-- an operand of a call, in the framed run and in the elided one
abbrev pub first_operand : Elision → State → List Arg → ℕ → Value
first_operand e s args k = nth (arg_values e.code s.top.values args) k

abbrev pub second_operand : Elision → State → List Arg → ℕ → Value
second_operand e t args k = nth (arg_values (elided_code e) t.top.values args) k

-- a marker of a slot; where it marks nothing in the framed run it does so in the elided one
pub record IsAtMarker (e : Elision) (s t : State) (j : Intrinsic) (result : Option ℕ) (must_tail : Bool)
    (ty : Option Ty) (args : List Arg) : Type 0 where
  pub own : IsAtOwn e s t (Instr.Call result must_tail ty (Callee.Intrinsic j) args)
  pub marker : (j ≡ Intrinsic.LifetimeStart) ⊎ (j ≡ Intrinsic.LifetimeEnd)
  pub nothing : block_of (first_operand e s args 1) ≡ None → block_of (second_operand e t args 1) ≡ None
  pub first : HoldsNoFrame s.instances (first_operand e s args 1)
  pub second : HoldsNoFrame t.instances (second_operand e t args 1)

-- a deallocation of a block that is no frame's, which isn't undefined
pub record IsAtDeallocation (e : Elision) (s t : State) (a : Allocator) (result : Option ℕ) (must_tail : Bool)
    (ty : Option Ty) (args : List Arg) (memory : List MemoryBlock) : Type 0 where
  pub own : IsAtOwn e s t (Instr.Call result must_tail ty (Callee.Allocator a) args)
  pub frees : deals Dealing.Frees a ≡ true
  pub first : HoldsNoFrame s.instances (first_operand e s args 0)
  pub second : HoldsNoFrame t.instances (second_operand e t args 0)
  pub does : deallocated s.world.memory (address (first_operand e s args 0)) ≡ Ok memory
