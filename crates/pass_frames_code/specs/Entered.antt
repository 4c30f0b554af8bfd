-- Allocas in front of the entry of a ramp: what is there when they have been executed.
use Rattle.std.specs.Prelude.{List, None, Some, [], if◌then◌else◌, length, map, replicate, slice_get, true, ℕ, ◌++◌, ◌+◌, ◌<◌, ◌∷◌, ◌≡◌, ◌≤◌, ◌⊎◌}
use Rattle.std.specs.List.{Contains}
use Rattle.pass_proofs.specs.pass_cells.Written.{stored_params}
use Rattle.pass_proofs.specs.pass_copies.declared.slot.EarlySlot.{EarlySlot}
use Rattle.pass_frames_code.specs.Entry.{cells_of, puts_of}
use Rattle.pass_frames_code.specs.Lines.{IsCellOf, RunsOver, at_work}
use Rattle.pass_frames_code.specs.Places.{Framing, copies, edged, plan}
use Rattle.pass_frames_code.specs.Related.{AreCellsRight, AreWheresRight}
use Rattle.pass_proofs.specs.run_laws.access.Accessed.{Span}
use Rattle.pass_proofs.specs.run_laws.memory.Pointers.{Home}
use Rattle.pass_proofs.specs.run_memory.declared.pointer.Value.{Value}
use Rattle.pass_proofs.specs.run_source.declared.state.Activation.{Activation}
use Rattle.pass_proofs.specs.flow_solver.Paths.{IsListed}
use Rattle.pass_proofs.specs.ir_model.Layout.{size_of}
use Rattle.pass_proofs.specs.ir_model.Ty.{Ty}
use Rattle.pass_proofs.specs.ir_model.declared.instr.Instr.{Instr}
use Rattle.pass_proofs.specs.ir_model.declared.module.Function.{Function}
use Rattle.pass_proofs.specs.ir_model.declared.module.Module.{Module}
use Rattle.pass_proofs.specs.ir_model.declared.operand.Arg.{Arg}
use Rattle.pass_proofs.specs.ir_model.declared.operand.Operand.{Operand}
use Rattle.pass_proofs.specs.run_laws.changed.Changed.{Each}
use Rattle.pass_proofs.specs.run_memory.declared.block.Byte.{Byte}
use Rattle.pass_proofs.specs.run_memory.declared.block.Life.{Life}
use Rattle.pass_proofs.specs.run_memory.declared.block.MemoryBlock.{MemoryBlock}
use Rattle.pass_proofs.specs.run_source.declared.state.State.{State}
use Rattle.pass_proofs.specs.run_step.declared.world.World.{World}
use Rattle.pass_proofs.specs.run_step.Step.{Context, Work, alloca_kind, entry_values, has_markers, is_alignment}
use Rattle.pass_proofs.specs.run_step.Values.{Env, pointer_to, value_in, with_value}
use Rattle.pass_proofs.specs.run_step.declared.world.Slot.{Slot}

-- an alloca whose alignment is one
pub record IsAlloca (j : Instr) : Type 0 where
  pub name : ℕ
  pub ty : Ty
  pub align : ℕ
  pub is : j ≡ Instr.Alloca name ty align
  pub alignment : is_alignment align ≡ true

abbrev pub names_in : (js : List Instr) → Each IsAlloca js → List ℕ
names_in [] h = []
names_in (j ∷ js) h = h.0.name ∷ names_in js h.1

-- the block that it makes
abbrev pub alloca_block : Module → Function → ℕ → Ty → ℕ → MemoryBlock
alloca_block m f name ty align =
    record {
      size = size_of m ty;
      align = align;
      kind = alloca_kind f;
      life = if has_markers f name then Life.Ended else Life.Live;
      owned = None;
      bytes = replicate (size_of m ty) Byte.Undefined;
    }

-- what is there behind some of them
pub record Made : Type 0 where
  pub memory : List MemoryBlock
  pub values : Env
  pub slots : List Slot

abbrev pub made_one : Module → Function → Made → (name : ℕ) → Ty → (align : ℕ) → Made
made_one m f k name ty align =
    record {
      memory = k.memory ++ alloca_block m f name ty align ∷ [];
      values = with_value k.values name (pointer_to (length k.memory));
      slots = record { alloca = name; block = length k.memory } ∷ k.slots;
    }

abbrev pub made_all : (m : Module) (f : Function) (k : Made) (js : List Instr) → Each IsAlloca js → Made
made_all m f k [] h = k
made_all m f k (j ∷ js) h = made_all m f (made_one m f k h.0.name h.0.ty h.0.align) js h.1

-- a memory that grows keeps its blocks
pub record Grows (m k : List MemoryBlock) : Type 0 where
  pub same : (e : ℕ) → e < length m → slice_get k e ≡ slice_get m e
  pub longer : length m ≤ length k

-- the state behind allocas of the entry of a ramp
abbrev pub made_state : State → Made → ℕ → State
made_state t k n =
    record t {
      world = record t.world { memory = k.memory };
      top = record t.top { at = t.top.at + n; values = k.values; slots = k.slots };
    }

-- the block of an alloca, behind so many blocks
pub record IsThere (m : Module) (f : Function) (base : ℕ) (k : Made) (name : ℕ) (ty : Ty) (align : ℕ) : Type 0 where
  pub block : ℕ
  pub address : value_in k.values name ≡ pointer_to block
  pub own : IsListed (record { alloca = name; block = block }) k.slots
  pub there : slice_get k.memory block ≡ Some (alloca_block m f name ty align)
  pub new : base ≤ block

-- the blocks of these and of further slots are there
abbrev pub AreBelow : Made → List Slot → Type 0
AreBelow k rest = (n : ℕ) → IsListed n (map (λ (slot : Slot). slot.block) (k.slots ++ rest)) → n < length k.memory

-- a store through the address of a new block
pub record IsNewStore (env : Env) (base : ℕ) (j : Instr) : Type 0 where
  pub arg : Arg
  pub name : ℕ
  pub align : ℕ
  pub is : j ≡ Instr.Store arg (Operand.Local name) align
  pub block : ℕ
  pub leads : value_in env name ≡ pointer_to block
  pub new : base ≤ block

-- new blocks alone are touched, and nothing is seen
pub record IsOnEntry (env : Env) (w : World) (base : ℕ) (u : Work) : Type 0 where
  pub values : u.values ≡ env
  pub events : u.world.events ≡ w.events
  pub same : (e : ℕ) → e < base → slice_get u.world.memory e ≡ slice_get w.memory e

-- ---- what is stored there

abbrev pub temporary_of : EarlySlot → ℕ
temporary_of s = s.temporary

-- the name of a cell of a kept value or a distance, or of an address
abbrev pub IsEntryName : Framing → ℕ → Type 0
IsEntryName x v = IsCellOf x v ⊎ IsListed v (cells_of (copies x).slots)

-- Addresses of temporaries and parameters are stored, and nothing else. Then cells are right by the values at the entry.
pub record IsEntryStored (x : Framing) (homes : List Home) (c : Context) (w : Work) (a : Activation) (args : List Value)
    (n : ℕ) : Type 0 where
  pub work : Work
  pub spans : List Span
  pub over : RunsOver c (puts_of temporary_of (copies x).slots ++ stored_params (plan x) (edged x).params) n spans w work
  pub values : work.values ≡ w.values
  pub inside : Each
      (λ (p : Span). (q : ℕ) × IsEntryName x q × Contains a.slots (record { alloca = q; block = p.block })) spans
  pub right : AreCellsRight x homes c.rights work.world.memory (entry_values (edged x) args) (at_work a work)
  pub wheres : AreWheresRight x c.rights work.world.memory None (at_work a work)
