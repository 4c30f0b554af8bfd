-- Memories and values in which no pointer leads into some blocks, and what an instruction may spread of its operands.
use Rattle.std.specs.Prelude.{ℕ, Bool, List, [], ◌∷◌, Some, None, ◌≡◌, ◌⊎◌}
use Rattle.pass_kept_proof.specs.run_memory.declared.block.Byte.{Byte}
use Rattle.pass_kept_proof.specs.run_memory.declared.block.MemoryBlock.{MemoryBlock}
use Rattle.pass_kept_proof.specs.run_memory.declared.pointer.Value.{Value}
use Rattle.pass_kept_proof.specs.ir_model.declared.instr.Instr.{Instr}
use Rattle.pass_kept_proof.specs.ir_model.declared.operand.Callee.{Callee}
use Rattle.pass_kept_proof.specs.ir_model.declared.operand.Intrinsic.{Intrinsic}
use Rattle.pass_kept_proof.specs.ir_model.declared.operand.Operand.{Operand}
use Rattle.pass_kept_proof.specs.run_step.Step.{Action, AtInstr, AtTerm, Done, Enter, Fetched, NewSlot, Nowhere, Return}
use Rattle.pass_kept_proof.specs.run_step.Values.{Env, value_in}
use Rattle.pass_renewed_proof.specs.Muted.{IsShown}
use Rattle.run_laws.specs.changed.Changed.{Each, operands_of, operands_of_term}

-- ---- memories

-- the byte is no part of a pointer into one of these blocks
abbrev pub IsShownByte : (ℕ → Bool) → Byte → Type 0
IsShownByte hides (Byte.Part p k) = IsShown hides (Value.Ptr p)
IsShownByte hides _ = Unit {0}

abbrev pub AreShownBytes : (ℕ → Bool) → List Byte → Type 0
AreShownBytes hides bytes = Each (IsShownByte hides) bytes

-- whatever became of a block, its bytes are no such parts
abbrev pub AreShownBlocks : (ℕ → Bool) → List MemoryBlock → Type 0
AreShownBlocks hides m = Each (λ (x : MemoryBlock). AreShownBytes hides x.bytes) m

-- ---- instructions

-- the operands that may get elsewhere: all but the address of a load, store or memcpy and what a marker or coro.id takes
abbrev pub spread_by : Instr → List Operand
spread_by (Instr.Load name ty p align) = []
spread_by (Instr.Store arg p align) = arg.value ∷ []
spread_by (Instr.Call result must_tail ty (Callee.Intrinsic Intrinsic.LifetimeStart) args) = []
spread_by (Instr.Call result must_tail ty (Callee.Intrinsic Intrinsic.LifetimeEnd) args) = []
spread_by (Instr.Call result must_tail ty (Callee.Intrinsic Intrinsic.CoroId) args) = []
spread_by (Instr.Call result must_tail ty (Callee.Intrinsic Intrinsic.MemcpyI64) args) = []
spread_by (Instr.Call result must_tail ty (Callee.Intrinsic Intrinsic.MemcpyI32) args) = []
spread_by i = operands_of i

abbrev pub spread_at : Fetched → List Operand
spread_at Nowhere = []
spread_at (AtInstr i) = spread_by i
spread_at (AtTerm t) = operands_of_term t

-- ---- what comes of one

-- each name has what it had, or no pointer into one of these blocks
abbrev pub KeepsShown : (ℕ → Bool) → Env → Env → Type 0
KeepsShown hides env other = (name : ℕ) → (value_in other name ≡ value_in env name) ⊎ IsShown hides (value_in other name)

-- what the action leaves and hands on has no pointer into one of these blocks
abbrev pub IsShownAction : (ℕ → Bool) → Env → Action → Type 0
IsShownAction hides env (Done w) = AreShownBlocks hides w.world.memory × KeepsShown hides env w.values
IsShownAction hides env (NewSlot w slot) = AreShownBlocks hides w.world.memory × KeepsShown hides env w.values
IsShownAction hides env (Enter func args result must_tail) = Each (IsShown hides) args
IsShownAction hides env (Return None) = Unit {0}
IsShownAction hides env (Return (Some v)) = IsShown hides v
IsShownAction hides env _ = Unit {0}
