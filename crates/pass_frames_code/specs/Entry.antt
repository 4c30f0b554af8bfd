-- Slots that are used before begin: the address of each temporary is put into the slot's cell.
use Rattle.std.specs.Prelude.{◌≡◌, ◌<◌, ℕ, List, map}
use Rattle.pass_proofs.specs.flow_solver.Paths.{IsListed}
use Rattle.pass_proofs.specs.ir_model.Ty.{ptr}
use Rattle.pass_proofs.specs.ir_model.declared.instr.Instr.{Instr}
use Rattle.pass_proofs.specs.pass_copies.BeginCopies.{put}
use Rattle.pass_proofs.specs.pass_copies.declared.slot.EarlySlot.{EarlySlot}
use Rattle.pass_frames_code.specs.Lines.{RunsOver, at_work}
use Rattle.pass_frames_code.specs.Related.{Anything, IsCell}
use Rattle.pass_proofs.specs.run_laws.access.Accessed.{Span}
use Rattle.pass_proofs.specs.run_laws.changed.Changed.{Each}
use Rattle.pass_proofs.specs.run_memory.Memory.{Rights}
use Rattle.pass_proofs.specs.run_memory.declared.block.MemoryBlock.{MemoryBlock}
use Rattle.pass_proofs.specs.run_memory.declared.pointer.Pointer.{Pointer}
use Rattle.pass_proofs.specs.run_memory.declared.pointer.Value.{Value}
use Rattle.pass_proofs.specs.run_source.declared.state.Activation.{Activation}
use Rattle.pass_proofs.specs.run_step.Step.{Context, Work}
use Rattle.pass_proofs.specs.run_step.Values.{value_in}
use Rattle.std.specs.List.{Contains}

abbrev pub puts_of : (EarlySlot → ℕ) → List EarlySlot → List Instr
puts_of address ss = map (λ (s : EarlySlot). put (address s) s.cell) ss

-- the slot's cell is there, and what is to be put into it is an address
pub record MayPut (rights : Rights) (memory : List MemoryBlock) (a : Activation) (address : EarlySlot → ℕ)
    (n : ℕ) (s : EarlySlot) : Type 0 where
  pub cell : IsCell rights memory a s.cell ptr Anything
  pub low : s.cell < n
  pub pointer : Pointer
  pub leads : value_in a.values (address s) ≡ Value.Ptr pointer

abbrev pub cells_of : List EarlySlot → List ℕ
cells_of ss = map (λ (s : EarlySlot). s.cell) ss

-- the line is executed, fills these cells alone, and each has the address
pub record ArePut (c : Context) (w : Work) (a : Activation) (address : EarlySlot → ℕ) (n : ℕ) (ss : List EarlySlot)
    : Type 0 where
  pub work : Work
  pub spans : List Span
  pub over : RunsOver c (puts_of address ss) n spans w work
  pub values : work.values ≡ w.values
  pub inside : Each (λ (z : Span).
      (cell : ℕ) × IsListed cell (cells_of ss) × Contains a.slots (record { alloca = cell; block = z.block })) spans
  pub put : Each (λ (s : EarlySlot).
      IsCell c.rights work.world.memory (at_work a work) s.cell ptr
      (λ (v : Value). v ≡ value_in w.values (address s))) ss
