-- What lifetime markers mark, and what a slot of the framed run is.
use Rattle.std.specs.Prelude.{◌≡◌, ◌⊎◌, ◌<◌, ℕ, Bool, false, List, slice_get, Some, Option}
use Rattle.pass_elide_proof.specs.Elision.{Elision, differs_in, function_in}
use Rattle.pass_elide_proof.specs.Marking.{HoldsNoFrame, first_operand}
use Rattle.pass_elide_proof.specs.Places.{instrs_of}
use Rattle.pass_elide_runs.specs.Slots.{IsAllocaAt}
use Rattle.pass_elide_proof.specs.pass_proofs.ir_model.Ty.{Ty}
use Rattle.pass_elide_proof.specs.pass_proofs.ir_model.declared.instr.Instr.{Instr}
use Rattle.pass_elide_proof.specs.pass_proofs.ir_model.declared.module.Function.{Function}
use Rattle.pass_elide_proof.specs.pass_proofs.ir_model.declared.operand.Arg.{Arg}
use Rattle.pass_elide_proof.specs.pass_proofs.ir_model.declared.operand.Callee.{Callee}
use Rattle.pass_elide_proof.specs.pass_proofs.ir_model.declared.operand.Intrinsic.{Intrinsic}
use Rattle.pass_elide_proof.specs.pass_proofs.ir_model.declared.operand.Operand.{Operand}
use Rattle.pass_elide_proof.specs.pass_proofs.ir_paths.Windows.{operand_at}
use Rattle.pass_elide_proof.specs.pass_proofs.run_source.declared.state.State.{State}
use Rattle.pass_elide_proof.specs.pass_proofs.run_step.Step.{block_of}

-- a marker's pointer is an alloca that was passed
pub record MarksAlloca (f : Function) (block at : ℕ) (args : List Arg) : Type 0 where
  pub name : ℕ
  pub takes : operand_at args 1 ≡ Operand.Local name
  pub place : ℕ
  pub alloca : IsAllocaAt f place name
  pub passed : block ≡ 0 → place < at

-- K13: so it is of each marker, and allocas stand before their markers
abbrev pub MarksAllocas : Function → Type 0
MarksAllocas f =
    (block at : ℕ) (j : Intrinsic) (result : Option ℕ) (must_tail : Bool) (ty : Option Ty) (args : List Arg)
    → (j ≡ Intrinsic.LifetimeStart) ⊎ (j ≡ Intrinsic.LifetimeEnd)
    → slice_get (instrs_of f block) at ≡ Some (Instr.Call result must_tail ty (Callee.Intrinsic j) args)
    → MarksAlloca f block at args

-- the name of an alloca doesn't differ where a frame was given
abbrev pub HasPlainAllocas : Elision → ℕ → Type 0
HasPlainAllocas e func =
    (place name : ℕ) (ramp given : Bool) → IsAllocaAt (function_in e func) place name
    → differs_in (e.shape func) ramp given name ≡ false

-- a marker marks the block of a slot, in which no frame lies
pub record MarksOwnSlot (e : Elision) (s : State) (args : List Arg) : Type 0 where
  pub block : ℕ
  pub leads : block_of (first_operand e s args 1) ≡ Some block
  pub bare : HoldsNoFrame s.instances (first_operand e s args 1)
