-- Names whose values are told by what gives them: sizes of frames, blocks of that size, and the memory that begin takes.
use Rattle.std.specs.Prelude.{◌≡◌, ◌≢◌, ℕ, Bool, Some, Option, slice_get, List}
use Rattle.pass_frames_meaning.specs.pass_frames_proof.ir_model.Ty.{Ty}
use Rattle.pass_frames_meaning.specs.pass_frames_proof.ir_model.declared.instr.Instr.{Instr}
use Rattle.pass_frames_meaning.specs.pass_frames_proof.ir_model.declared.instr.Phi.{Phi}
use Rattle.pass_frames_meaning.specs.pass_frames_proof.ir_model.declared.module.Function.{Function}
use Rattle.pass_frames_meaning.specs.pass_frames_proof.ir_model.declared.module.Param.{Param}
use Rattle.pass_frames_meaning.specs.pass_frames_proof.ir_model.declared.operand.Allocator.{Allocator}
use Rattle.pass_frames_meaning.specs.pass_frames_proof.ir_model.declared.operand.Arg.{Arg}
use Rattle.pass_frames_meaning.specs.pass_frames_proof.ir_model.declared.operand.Callee.{Callee}
use Rattle.pass_frames_meaning.specs.pass_frames_proof.ir_model.declared.operand.Intrinsic.{Intrinsic}
use Rattle.pass_frames_meaning.specs.pass_frames_proof.ir_model.declared.operand.Operand.{Operand}
use Rattle.pass_frames_meaning.specs.pass_frames_proof.ir_parts.Contents.{result_of}
use Rattle.pass_frames_meaning.specs.pass_frames_proof.ir_paths.Windows.{operand_at}
use Rattle.pass_frames_meaning.specs.pass_frames_proof.run_laws.changed.Changed.{Each}
use Rattle.pass_frames_meaning.specs.pass_frames_proof.run_step.Step.{AtInstr, fetch, incoming_from, phis_of}

-- a name that only instructions of a kind give
pub record IsMadeBy (Makes : Instr → Type 0) (f : Function) (v : ℕ) : Type 0 where
  pub instrs : (block at : ℕ) (i : Instr) → fetch f block at ≡ AtInstr i → result_of i ≡ Some v → Makes i
  pub phis : (block : ℕ) → Each (λ (p : Phi). p.result ≢ v) (phis_of (slice_get f.blocks block))
  pub params : Each (λ (p : Param). p.name ≢ v) f.params

-- ---- sizes

-- a call of coro.size
abbrev pub AsksSize : Instr → Type 0
AsksSize (Instr.Call result must_tail ty (Callee.Intrinsic Intrinsic.CoroSizeI32) args) = Unit {0}
AsksSize (Instr.Call result must_tail ty (Callee.Intrinsic Intrinsic.CoroSizeI64) args) = Unit {0}
AsksSize _ = ⊥

abbrev pub IsSizeName : Function → ℕ → Type 0
IsSizeName = IsMadeBy AsksSize

-- ---- blocks

-- the first argument is such a name
pub record TakesSizeName (f : Function) (args : List Arg) : Type 0 where
  pub size : ℕ
  pub takes : operand_at args 0 ≡ Operand.Local size
  pub is_size : IsSizeName f size

-- an allocator is called with a size of coro.size
abbrev pub AllocatesSize : Function → Instr → Type 0
AllocatesSize f (Instr.Call result must_tail ty (Callee.Allocator Allocator.Malloc) args) = TakesSizeName f args
AllocatesSize f (Instr.Call result must_tail ty (Callee.Allocator Allocator.Znwm) args) = TakesSizeName f args
AllocatesSize f _ = ⊥

abbrev pub IsBlockName : Function → ℕ → Type 0
IsBlockName f = IsMadeBy (AllocatesSize f) f

-- ---- what begin takes

-- such a name, or what is no address of a block
abbrev pub TakesBlockName : Function → Operand → Type 0
TakesBlockName f (Operand.Local v) = IsBlockName f v
TakesBlockName f (Operand.Global n) = ⊥
TakesBlockName f x = Unit {0}

-- phis alone give the name, and take such blocks
pub record IsMemoryName (f : Function) (v : ℕ) : Type 0 where
  pub instrs : (block at : ℕ) (i : Instr) → fetch f block at ≡ AtInstr i → result_of i ≡ Some v → ⊥
  pub phis : (block : ℕ) → Each (λ (p : Phi). p.result ≡ v → (label : ℕ)
      → TakesBlockName f (incoming_from p.incoming label)) (phis_of (slice_get f.blocks block))
  pub params : Each (λ (p : Param). p.name ≢ v) f.params

-- each begin takes such a name
abbrev pub BeginsInSizedBlocks : Function → Type 0
BeginsInSizedBlocks f =
    (block at : ℕ) (result : Option ℕ) (must_tail : Bool) (ty : Option Ty) (args : List Arg)
    → fetch f block at ≡ AtInstr (Instr.Call result must_tail ty (Callee.Intrinsic Intrinsic.CoroBegin) args)
    → (v : ℕ) × (operand_at args 1 ≡ Operand.Local v) × IsMemoryName f v
