-- Straight lines that are woven in: they set new names and fill ranges of bytes, and nothing else.
use Rattle.std.specs.List.{Contains}
use Rattle.std.specs.Prelude.{◌≡◌, ◌<◌, ◌≤◌, ◌≢◌, ℕ, true, List, [], ◌∷◌, length, map, slice_get, Some}
use Rattle.pass_proofs.specs.ir_laws.paths.woven_rules.Pairs.{AreDifferent}
use Rattle.pass_proofs.specs.ir_model.Ty.{Ty, int}
use Rattle.pass_proofs.specs.ir_model.declared.instr.Instr.{Instr}
use Rattle.pass_proofs.specs.pass_cells.Kept.{entry}
use Rattle.pass_proofs.specs.pass_cells.Moves.{load_from, store_to}
use Rattle.pass_proofs.specs.pass_cells.declared.plan.KeptValue.{KeptValue}
use Rattle.pass_proofs.specs.pass_fetch.Fetching.{value_bytes}
use Rattle.pass_frames_code.specs.Places.{Framing, edged, named, plan}
use Rattle.pass_frames_code.specs.Related.{Anything, IsCell, IsDistanceOf, IsKeptValue, root_of}
use Rattle.pass_proofs.specs.run_laws.access.Accessed.{Span}
use Rattle.pass_proofs.specs.run_laws.access.Lines.{AreDisjoint, Holds, Runs, refilled_at}
use Rattle.pass_proofs.specs.run_laws.changed.Changed.{Each}
use Rattle.pass_proofs.specs.run_laws.memory.Pointers.{Home, IsValue}
use Rattle.pass_proofs.specs.run_laws.memory.Standing.{IsAway}
use Rattle.pass_proofs.specs.run_memory.Memory.{Rights, access_bytes, is_live}
use Rattle.pass_proofs.specs.run_memory.declared.block.Byte.{Byte}
use Rattle.pass_proofs.specs.run_memory.declared.block.MemoryBlock.{MemoryBlock}
use Rattle.pass_proofs.specs.run_memory.declared.pointer.Value.{Value}
use Rattle.pass_proofs.specs.run_source.declared.state.Activation.{Activation}
use Rattle.pass_proofs.specs.run_step.Step.{Context, Done, Work, instr_action, is_alignment, set_value}
use Rattle.pass_proofs.specs.run_step.Values.{Env, access_of, stored, value_in}
use Rattle.pass_proofs.specs.run_step.declared.world.Slot.{Slot}
use Rattle.pass_proofs.specs.run_step.declared.world.World.{World}

-- one range behind another is filled with other bytes, each of which may be written
pub data Fills (rights : Rights) : List Span → List MemoryBlock → List MemoryBlock → Type 0 where
  NoneFilled : (m : List MemoryBlock) → Fills rights [] m m
  OneFilled : (b o most : ℕ) (old new : List Byte) (spans : List Span) (m k : List MemoryBlock)
      → Holds rights m b o most old → length new ≡ length old → Fills rights spans (refilled_at m b o new) k
      → Fills rights (record { block = b; offset = o; len = length new } ∷ spans) m k

-- the line is executed: names from n on may be set, and the ranges are filled
pub record RunsOver (c : Context) (line : List Instr) (n : ℕ) (spans : List Span) (w x : Work) : Type 0 where
  pub runs : Runs c line w x
  pub fills : Fills c.rights spans w.world.memory x.world.memory
  pub world : x.world ≡ record w.world { memory = x.world.memory }
  pub others : (v : ℕ) → v < n → value_in x.values v
      ≡ value_in w.values v
  pub room : length x.values ≡ length w.values

-- a range of bytes lies apart from each of these
abbrev pub LiesApart : (b o len : ℕ) → List Span → Type 0
LiesApart b o len spans = Each (λ (s : Span). AreDisjoint s.block s.offset s.len b o len) spans

-- none of them is in the block
abbrev pub AreElsewhere : ℕ → List Span → Type 0
AreElsewhere b spans = Each (λ (s : Span). s.block ≢ b) spans

-- all of them are
abbrev pub AreInBlock : ℕ → List Span → Type 0
AreInBlock b spans = Each (λ (s : Span). s.block ≡ b) spans

-- ---- cells

-- a type of what is kept: its bytes may be loaded and stored at their own alignment
pub record IsKeptType (ty : Ty) : Type 0 where
  pub bytes : value_bytes ty ≡ access_bytes (access_of ty)
  pub some : 0 < value_bytes ty
  pub alignment : is_alignment (value_bytes ty) ≡ true

-- a value is what is loaded again once it is stored
abbrev pub IsStorable : Ty → Value → Type 0
IsStorable ty v = stored (access_of ty) v ≡ v

-- the activation with the values of a work
abbrev pub at_work : Activation → Work → Activation
at_work a w = record a { values = w.values }

-- its slots have blocks of their own
abbrev pub HasOwnBlocks : Activation → Type 0
HasOwnBlocks a = AreDifferent (map (λ (slot : Slot). slot.block) a.slots)

-- ---- what lines do to a state

-- no byte of a live block of the source that its program may touch stands in these ranges
abbrev pub AreAway : Rights → List Home → List MemoryBlock → List Span → Type 0
AreAway rights homes m spans =
    Each (λ (s : Span). (b : ℕ) (z : MemoryBlock) → slice_get m b ≡ Some z → is_live z.life ≡ true
    → IsAway rights homes b z s.block s.offset s.len) spans

abbrev pub with_memory : World → List MemoryBlock → World
with_memory t m = record t { memory = m }

-- the name of a cell: behind those of the coroutine
abbrev pub IsCellOf : Framing → ℕ → Type 0
IsCellOf x v = (length (edged x).names ≤ v) × (v < length (named x).names)

-- each range lies in the block of a cell of the activation
abbrev pub AreInCells : Framing → Activation → List Span → Type 0
AreInCells x a spans =
    Each (λ (s : Span). (cell : ℕ) × IsCellOf x cell × Contains a.slots (record { alloca = cell; block = s.block }))
    spans

-- ---- one load, one store

pub record LoadsCell (c : Context) (w : Work) (n cell : ℕ) (ty : Ty) (Has : Value → Type 0) : Type 0 where
  pub value : Value
  pub has : Has value
  pub is : instr_action c w (load_from n ty cell) ≡ Done (set_value w n value)

pub record StoresCell (c : Context) (w : Work) (a : Activation) (v cell : ℕ) (ty : Ty) (n : ℕ) : Type 0 where
  pub work : Work
  pub spans : List Span
  pub over : RunsOver c (store_to ty v cell ∷ []) n spans w work
  pub values : work.values ≡ w.values
  pub cell_is : IsCell c.rights work.world.memory (at_work a work) cell ty
      (λ (u : Value). u ≡ stored (access_of ty) (value_in w.values v))
  pub inside : AreInBlock cell_is.block spans

-- ---- behind a definition

-- all cells are right but that of the distance of one name
pub record AreCellsRightBut (x : Framing) (homes : List Home) (rights : Rights) (memory : List MemoryBlock) (env : Env)
    (a : Activation) (but : ℕ) : Type 0 where
  pub values : (v : ℕ) (k : KeptValue) → IsKeptValue x v k
      → IsCell rights memory a k.cell k.ty (IsValue homes (value_in env v))
  pub distances : (v cell slot : ℕ) → v ≢ but → entry (plan x).cells v ≡ Some cell → root_of x v ≡ Some slot
      → IsCell rights memory a cell (int 64) (IsDistanceOf (value_in env slot) (value_in env v))

-- a line is executed, fills cells of the activation alone, and then all are right but that distance, whose cell is there
pub record LeavesCellsBut (x : Framing) (homes : List Home) (c : Context) (w : Work) (a : Activation) (env : Env)
    (but n : ℕ) (line : List Instr) : Type 0 where
  pub work : Work
  pub spans : List Span
  pub over : RunsOver c line n spans w work
  pub values : work.values ≡ w.values
  pub inside : AreInCells x a spans
  pub right : AreCellsRightBut x homes c.rights work.world.memory env (at_work a work) but
  pub there : (cell : ℕ) → entry (plan x).cells but ≡ Some cell
      → IsCell c.rights work.world.memory (at_work a work) cell (int 64) Anything

-- a name that gets a value: it is no local slot from whose address distances go on
abbrev pub IsNoRoot : Framing → ℕ → Type 0
IsNoRoot x v = (u slot : ℕ) → root_of x u ≡ Some slot → slot ≢ v

-- of two environments: they differ in no other name
abbrev pub DifferAt : ℕ → Env → Env → Type 0
DifferAt v old env = (u : ℕ) → u ≢ v → value_in env u ≡ value_in old u
