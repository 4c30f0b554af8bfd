-- What stands before a save keeps values in their fields.
use Rattle.std.specs.Prelude.{◌≡◌, ◌≢◌, ◌<◌, ◌≤◌, ◌+◌, ◌^◌, ℕ, List, length, slice_get, Some}
use Rattle.pass_proofs.specs.flow_solver.Paths.{IsListed}
use Rattle.pass_proofs.specs.pass_cells.Moves.{saved_values}
use Rattle.pass_proofs.specs.pass_cells.declared.plan.KeptValue.{KeptValue}
use Rattle.pass_proofs.specs.pass_fetch.Fetching.{value_bytes}
use Rattle.pass_proofs.specs.pass_frames.Framed.{begin_of}
use Rattle.pass_frames_code.specs.Code.{addressed}
use Rattle.pass_frames_code.specs.Led.{RunsThrough}
use Rattle.pass_frames_code.specs.Lines.{AreInBlock, HasOwnBlocks, IsCellOf, IsStorable, RunsOver, at_work}
use Rattle.pass_frames_code.specs.Places.{Framing, offsets, plan}
use Rattle.pass_frames_code.specs.Related.{AreCellsRight, Anything, IsKeptAs, IsKeptValue}
use Rattle.pass_proofs.specs.run_laws.access.Accessed.{Span}
use Rattle.pass_proofs.specs.run_laws.access.Lines.{AreDisjoint, Holds, pointer_at}
use Rattle.pass_proofs.specs.run_laws.changed.Changed.{Each}
use Rattle.pass_proofs.specs.run_laws.memory.Pointers.{Home}
use Rattle.pass_proofs.specs.run_memory.Memory.{Rights, decode}
use Rattle.pass_proofs.specs.run_memory.declared.block.Byte.{Byte}
use Rattle.pass_proofs.specs.run_memory.declared.block.MemoryBlock.{MemoryBlock}
use Rattle.pass_proofs.specs.run_memory.declared.pointer.Value.{Value}
use Rattle.pass_proofs.specs.run_source.declared.state.Activation.{Activation}
use Rattle.pass_proofs.specs.run_step.Step.{Context, Work}
use Rattle.pass_proofs.specs.run_step.Values.{Env, access_of, value_in}
use Rattle.pass_proofs.specs.run_step.declared.world.Slot.{Slot}
use Rattle.std.specs.List.{Contains}

-- ---- fields

-- the field of a kept value lies in the frame that starts in a block, and has what is said of it
pub record HoldsField (x : Framing) (rights : Rights) (memory : List MemoryBlock) (block start : ℕ) (k : KeptValue)
    (Has : Value → Type 0) : Type 0 where
  pub offset : ℕ
  pub told : slice_get (offsets x) k.field ≡ Some (Some offset)
  pub near : start + offset < 2 ^ 64
  pub bytes : List Byte
  pub sized : length bytes ≡ value_bytes k.field_ty
  pub holds : Holds rights memory block (start + offset) (value_bytes k.field_ty) bytes
  pub has : Has (decode (access_of k.field_ty) bytes)

-- the fields of the values of a row may be written, and share no bytes
pub record HasRoomFor (x : Framing) (rights : Rights) (memory : List MemoryBlock) (block start : ℕ) (row : List ℕ)
    : Type 0 where
  pub each : (v : ℕ) (k : KeptValue) → (kept : IsKeptValue x v k) → IsListed kept.number row
      → HoldsField x rights memory block start k Anything
  pub apart : (u v : ℕ) (k j : KeptValue) (d e : ℕ) → (one : IsKeptValue x u k) → (other : IsKeptValue x v j)
      → IsListed one.number row → IsListed other.number row → u ≢ v
      → slice_get (offsets x) k.field ≡ Some (Some d) → slice_get (offsets x) j.field ≡ Some (Some e)
      → AreDisjoint block (start + d) (value_bytes k.field_ty) block (start + e) (value_bytes j.field_ty)

-- what each kept value is may be stored
abbrev pub AreStorable : Framing → Env → Type 0
AreStorable x env = (v : ℕ) (k : KeptValue) → IsKeptValue x v k → IsStorable k.ty (value_in env v)

-- no cell of the activation lies in the block
abbrev pub AreCellsElsewhere : Framing → ℕ → Activation → Type 0
AreCellsElsewhere x block a =
    (slot : Slot) → Contains a.slots slot → IsCellOf x slot.alloca → slot.block ≢ block

-- ---- the line before a save: new names are from n on for values, and from m on for addresses

-- the range is the field of a value of the row, in the frame that starts in a block
pub record IsFieldSpan (x : Framing) (block start : ℕ) (row : List ℕ) (s : Span) : Type 0 where
  pub value : ℕ
  pub kept : KeptValue
  pub is_kept : IsKeptValue x value kept
  pub listed : IsListed is_kept.number row
  pub offset : ℕ
  pub told : slice_get (offsets x) kept.field ≡ Some (Some offset)
  pub is : s ≡ record { block = block; offset = start + offset; len = value_bytes kept.field_ty }

-- of the world nothing is another but what a block has
pub record IsButBlock (block : ℕ) (w u : Work) : Type 0 where
  pub world : u.world ≡ record w.world { memory = u.world.memory }
  pub others : (e : ℕ) → e ≢ block → slice_get u.world.memory e ≡ slice_get w.world.memory e

pub record SavesValues (x : Framing) (homes : List Home) (c : Context) (w : Work) (a : Activation) (env : Env)
    (block start k n m : ℕ) (row : List ℕ) : Type 0 where
  pub work : Work
  pub spans : List Span
  pub over : RunsOver c (addressed x k (m, tt) (saved_values (plan x).kept n row)) n spans w work
  pub through : RunsThrough c (IsButBlock block w) (addressed x k (m, tt) (saved_values (plan x).kept n row)) w work
  pub inside : AreInBlock block spans
  pub in_fields : Each (IsFieldSpan x block start row) spans
  pub between : (u : ℕ) → n + length row ≤ u → u < m → value_in work.values u ≡ value_in w.values u
  pub cells : AreCellsRight x homes c.rights work.world.memory env (at_work a work)
  pub fields : (v : ℕ) (j : KeptValue) → (kept : IsKeptValue x v j) → IsListed kept.number row
      → HoldsField x c.rights work.world.memory block start j (IsKeptAs homes env v j j.slot)

-- what is asked of the work in which the line begins
pub record MaySave (x : Framing) (homes : List Home) (c : Context) (w : Work) (a : Activation) (env : Env)
    (block start n m : ℕ) (row : List ℕ) : Type 0 where
  pub begun : value_in w.values (begin_of x.function) ≡ pointer_at block start
  pub begin_old : begin_of x.function < n
  pub room : n + length row ≤ m
  pub long : m + length row ≤ length w.values
  pub own : HasOwnBlocks a
  pub elsewhere : AreCellsElsewhere x block a
  pub storable : AreStorable x env
  pub cells : AreCellsRight x homes c.rights w.world.memory env (at_work a w)
  pub fields : HasRoomFor x c.rights w.world.memory block start row
