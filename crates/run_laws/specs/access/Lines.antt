-- Straight lines: instructions that each are done, one behind another.
use Rattle.std.specs.Prelude.{ℕ, Bool, true, false, List, [], ◌∷◌, length, take, drop, slice_get, Some, ◌+◌, ◌<◌, ◌≤◌, ◌≡◌, ◌≢◌, ◌⊎◌}
use Rattle.run_memory.specs.Memory.{Rights, is_live, same_kind, write}
use Rattle.run_memory.specs.Pointers.{offset_of}
use Rattle.run_memory.specs.declared.block.Byte.{Byte}
use Rattle.run_memory.specs.declared.block.Kind.{Kind}
use Rattle.run_memory.specs.declared.block.MemoryBlock.{MemoryBlock}
use Rattle.run_memory.specs.declared.pointer.Pointer.{Pointer}
use Rattle.run_memory.specs.declared.pointer.Value.{Value}
use Rattle.ir_model.specs.declared.instr.Instr.{Instr}
use Rattle.ir_model.specs.declared.module.Function.{Function}
use Rattle.ir_model.specs.declared.operand.Intrinsic.{Intrinsic}
use Rattle.run_laws.specs.memory.Pointers.{AreBytes, Home}
use Rattle.run_laws.specs.memory.Standing.{IsAlignment}
use Rattle.run_step.specs.Step.{AtInstr, Context, Done, Work, fetch, instr_action}
use Rattle.run_step.specs.Values.{nth}

-- ---- runs

-- the instructions, each of them done, take one work to another
abbrev pub Runs : Context → List Instr → Work → Work → Type 0
Runs c [] w x = x ≡ w
Runs c (i ∷ is) w x = (v : Work) × ((instr_action c w i ≡ Done v) × Runs c is v x)

-- they stand in a function's block, the first of them at a place
abbrev pub StandAt : Function → (block at : ℕ) → List Instr → Type 0
StandAt f block at [] = Unit {0}
StandAt f block at (i ∷ is) = (fetch f block at ≡ AtInstr i) × StandAt f block (at + 1) is

-- A machine goes on behind each instruction that is done and passes a test. Its states are given by how far on they
-- are, and by their work.
pub record GoesOn {S : Type 0} (step : S → S) (ahead : ℕ → Work → S) (c : Context) (block at : ℕ) (test : Instr → Bool) : Type 0 where
  pub next : (k : ℕ) (w x : Work) (i : Instr) → fetch c.function block (at + k) ≡ AtInstr i → test i ≡ true → instr_action c w i ≡ Done x → step (ahead k w) ≡ ahead (k + 1) x

-- ---- ranges of bytes

abbrev pub pointer_at : (block offset : ℕ) → Value
pointer_at b o = Value.Ptr (Pointer.At b (offset_of o))

-- from an offset on a live block holds the bytes, which may be read and written at each alignment up to a greatest one
pub record Holds (rights : Rights) (m : List MemoryBlock) (b o most : ℕ) (bytes : List Byte) : Type 0 where
  pub block : MemoryBlock
  pub there : slice_get m b ≡ Some block
  pub live : is_live block.life ≡ true
  pub writable : same_kind block.kind Kind.Constant ≡ false
  pub whole : length block.bytes ≡ block.size
  pub within : o + length bytes ≤ block.size
  pub holds : take (length bytes) (drop o block.bytes) ≡ bytes
  pub unclosed : rights.is_closed b block o (length bytes) ≡ false
  pub aligned : (align : ℕ) → IsAlignment align → align ≤ most → rights.is_aligned b block o align ≡ true

-- two ranges have no byte in common
abbrev pub AreDisjoint : (b o len c p len' : ℕ) → Type 0
AreDisjoint b o len c p len' = (c ≢ b) ⊎ ((p + len' ≤ o) ⊎ (o + len ≤ p))

-- either call of memcpy
abbrev pub is_memcpy : Intrinsic → Bool
is_memcpy Intrinsic.MemcpyI64 = true
is_memcpy Intrinsic.MemcpyI32 = true
is_memcpy _ = false

-- the memory with other bytes from an offset of a block on
abbrev pub refilled_at : List MemoryBlock → (block offset : ℕ) → List Byte → List MemoryBlock
refilled_at m b o new = write m (record { block = b; offset = o }) new

-- a copy of as many bytes as there are in a range to another one
pub record IsCopyOf (vs : List Value) (b o a p len : ℕ) : Type 0 where
  pub to : nth vs 0 ≡ pointer_at b o
  pub from : nth vs 1 ≡ pointer_at a p
  pub width : ℕ
  pub long : nth vs 2 ≡ Value.Int (record { width = width; bits = len })
  pub some : 0 < len

-- from an offset of a block on the target holds bytes that stand for these
pub record StandsAs (target : Rights) (homes : List Home) (n : List MemoryBlock) (b o most : ℕ) (source : List Byte) : Type 0 where
  pub bytes : List Byte
  pub held : Holds target n b o most bytes
  pub stand : AreBytes homes source bytes
