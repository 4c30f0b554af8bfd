-- Slots that are used before begin: right behind it the bytes of their temporaries are copied to their places in the
-- frame, and the addresses of these go to their cells.
use Rattle.std.specs.List.{Contains}
use Rattle.std.specs.Prelude.{◌≡◌, ◌≢◌, ◌⊎◌, ◌+◌, ◌*◌, ◌<◌, ◌≤◌, ◌^◌, [], ◌∷◌, List, None, Some, false, length, slice_get, true, ℕ}
use Rattle.pass_proofs.specs.flow_solver.Paths.{IsListed}
use Rattle.pass_proofs.specs.frame_contents.declared.held.Holding.{Holding}
use Rattle.pass_proofs.specs.ir_laws.paths.woven_rules.Pairs.{AreDifferent}
use Rattle.pass_proofs.specs.ir_model.Ty.{ptr}
use Rattle.pass_proofs.specs.ir_model.declared.instr.Instr.{Instr}
use Rattle.pass_proofs.specs.ir_model.declared.operand.Operand.{Operand}
use Rattle.pass_proofs.specs.pass_copies.BeginCopies.{begin_copies}
use Rattle.pass_proofs.specs.pass_copies.declared.slot.EarlySlot.{EarlySlot}
use Rattle.pass_proofs.specs.pass_fetch.Fetching.{fetch_of}
use Rattle.pass_proofs.specs.pass_frames.Framed.{begin_of}
use Rattle.pass_frames_code.specs.Code.{addressed, slot_table}
use Rattle.pass_frames_code.specs.Entry.{cells_of}
use Rattle.pass_frames_code.specs.FromEdges.{IsEarlyInFrame}
use Rattle.pass_frames_code.specs.Led.{RunsThrough}
use Rattle.pass_frames_code.specs.Lines.{HasOwnBlocks, RunsOver, at_work}
use Rattle.pass_frames_code.specs.Places.{Framing}
use Rattle.pass_frames_code.specs.Related.{Anything, IsCell}
use Rattle.pass_proofs.specs.run_laws.access.Accessed.{Span}
use Rattle.pass_proofs.specs.run_laws.access.Lines.{AreDisjoint, Holds, pointer_at}
use Rattle.pass_proofs.specs.run_laws.changed.Changed.{Each}
use Rattle.pass_proofs.specs.run_laws.memory.Pointers.{Home, home_of}
use Rattle.pass_proofs.specs.run_laws.memory.Standing.{byte_of}
use Rattle.pass_proofs.specs.run_laws.transfer.Places.{HasRoom, IsApartFrom, MayBeSeen}
use Rattle.pass_proofs.specs.run_laws.transfer.Ready.{Place, home_at}
use Rattle.pass_proofs.specs.run_memory.Memory.{Rights, is_live}
use Rattle.pass_proofs.specs.run_memory.declared.block.Byte.{Byte}
use Rattle.pass_proofs.specs.run_memory.declared.block.MemoryBlock.{MemoryBlock}
use Rattle.pass_proofs.specs.run_memory.declared.pointer.Value.{Value}
use Rattle.pass_proofs.specs.run_source.declared.state.Activation.{Activation}
use Rattle.pass_proofs.specs.run_step.Step.{Context, Work}
use Rattle.pass_proofs.specs.run_step.Values.{value_in}
use Rattle.pass_proofs.specs.run_step.declared.world.Slot.{Slot}

-- what stands right behind begin
abbrev pub copies_line : Framing → (k m : ℕ) → List EarlySlot → List Instr
copies_line x k m ss = addressed x k (m, tt) (begin_copies ss)

-- ---- one slot

-- its size is that of its field
abbrev pub IsOfField : Framing → EarlySlot → Type 0
IsOfField x s = (n : ℕ) (h : Holding) → slice_get x.contents.held n ≡ Some h → h.value ≡ s.slot → s.size ≡ h.size

-- its place in the frame, and what its temporary holds; a slot has bytes (Y4), and no address is made of a temporary
pub record IsCopiedSlot (x : Framing) (start : ℕ) (s : EarlySlot) : Type 0 where
  pub place : IsEarlyInFrame x start s
  pub unfetched : fetch_of (slot_table x) (Operand.Local s.temporary) ≡ None
  pub some : 0 < s.size
  pub small : s.size < 2 ^ 64
  pub temporary : ℕ
  pub bytes : List Byte
  pub many : length bytes ≡ s.size
  pub old : List Byte
  pub fits : length old ≡ s.size

-- its cell is there, its temporary holds these bytes, and its range in the frame may be written
pub record MayCopy (x : Framing) (c : Context) (a : Activation) (block start m : ℕ) (w : Work) (s : EarlySlot)
    (p : IsCopiedSlot x start s) : Type 0 where
  pub low_temporary : s.temporary < m
  pub low_cell : s.cell < m
  pub cell : IsCell c.rights w.world.memory (at_work a w) s.cell ptr Anything
  pub own : Contains a.slots (record { alloca = s.temporary; block = p.temporary })
  pub leads : value_in w.values s.temporary ≡ pointer_at p.temporary 0
  pub holds : Holds c.rights w.world.memory p.temporary 0 1 p.bytes
  pub there : Holds c.rights w.world.memory block (start + p.place.offset) 1 p.old

abbrev pub range_of : (x : Framing) (start : ℕ) (s : EarlySlot) → IsCopiedSlot x start s → ℕ
range_of x start s p = start + p.place.offset

-- behind it the range holds the temporary's bytes, and the cell has its address
pub record IsCopied (x : Framing) (c : Context) (a : Activation) (block start : ℕ) (w : Work) (s : EarlySlot)
    (p : IsCopiedSlot x start s) : Type 0 where
  pub holds : Holds c.rights w.world.memory block (range_of x start s p) 1 p.bytes
  pub cell : IsCell c.rights w.world.memory (at_work a w) s.cell ptr
      (λ (v : Value). v ≡ pointer_at block (range_of x start s p))

-- ---- all of them

abbrev pub AllMayCopy : (x : Framing) (c : Context) (a : Activation) (block start m : ℕ) (w : Work)
    (ss : List EarlySlot) → Each (IsCopiedSlot x start) ss → Type 0
AllMayCopy x c a block start m w [] ps = Unit {0}
AllMayCopy x c a block start m w (s ∷ ss) ps =
    MayCopy x c a block start m w s ps.0 × AllMayCopy x c a block start m w ss ps.1

abbrev pub AllAreCopied : (x : Framing) (c : Context) (a : Activation) (block start : ℕ) (w : Work)
    (ss : List EarlySlot) → Each (IsCopiedSlot x start) ss → Type 0
AllAreCopied x c a block start w [] ps = Unit {0}
AllAreCopied x c a block start w (s ∷ ss) ps =
    IsCopied x c a block start w s ps.0 × AllAreCopied x c a block start w ss ps.1

-- the range of one has no byte in common with those of others
abbrev pub IsApartFromAll : (x : Framing) (block start : ℕ) (s : EarlySlot) → IsCopiedSlot x start s
    → (ss : List EarlySlot) → Each (IsCopiedSlot x start) ss → Type 0
IsApartFromAll x block start s p [] ps = Unit {0}
IsApartFromAll x block start s p (z ∷ zs) ps =
    AreDisjoint block (range_of x start s p) s.size block (range_of x start z ps.0) z.size
    × IsApartFromAll x block start s p zs ps.1

abbrev pub AllApart : (x : Framing) (block start : ℕ) (ss : List EarlySlot) → Each (IsCopiedSlot x start) ss → Type 0
AllApart x block start [] ps = Unit {0}
AllApart x block start (s ∷ ss) ps = IsApartFromAll x block start s ps.0 ss ps.1 × AllApart x block start ss ps.1

-- a range that is filled is one of these in the frame, or lies in a cell's block
abbrev pub IsFilledThere : (x : Framing) (a : Activation) (block start : ℕ) (ss : List EarlySlot)
    → Each (IsCopiedSlot x start) ss → Span → Type 0
IsFilledThere x a block start [] ps z = ⊥
IsFilledThere x a block start (s ∷ ss) ps z =
    (((z.block ≡ block) × (z.offset ≡ range_of x start s ps.0) × (z.len ≡ s.size))
    ⊎ Contains a.slots (record { alloca = s.cell; block = z.block }))
    ⊎ IsFilledThere x a block start ss ps.1 z

-- of the world nothing is another but what the frame's block has, and the blocks of cells of these
pub record IsButCells (a : Activation) (block : ℕ) (ss : List EarlySlot) (w u : Work) : Type 0 where
  pub world : u.world ≡ record w.world { memory = u.world.memory }
  pub others : (e : ℕ) → e ≢ block
      → ((s : EarlySlot) → IsListed s ss → Contains a.slots (record { alloca = s.cell; block = e }) → ⊥)
      → slice_get u.world.memory e ≡ slice_get w.world.memory e

-- the line is executed, and then all are copied; on the way no other block changes
pub record AreCopied (x : Framing) (c : Context) (a : Activation) (k block start m : ℕ) (w : Work)
    (ss : List EarlySlot) (ps : Each (IsCopiedSlot x start) ss) : Type 0 where
  pub work : Work
  pub spans : List Span
  pub over : RunsOver c (copies_line x k m ss) m spans w work
  pub through : RunsThrough c (IsButCells a block ss w) (copies_line x k m ss) w work
  pub spares : IsButCells a block ss w work
  pub inside : Each (IsFilledThere x a block start ss ps) spans
  pub copied : AllAreCopied x c a block start work ss ps

-- what is asked where the line begins: begin's name has the frame's address, which no slot's block is
pub record MayCopyAll (x : Framing) (c : Context) (a : Activation) (block start m : ℕ) (w : Work)
    (ss : List EarlySlot) (ps : Each (IsCopiedSlot x start) ss) : Type 0 where
  pub begun : value_in w.values (begin_of x.function) ≡ pointer_at block start
  pub old : begin_of x.function < m
  pub room : m + 2 * length ss ≤ length w.values
  pub own : HasOwnBlocks a
  pub elsewhere : (slot : Slot) → Contains a.slots slot → slot.block ≢ block
  pub once : AreDifferent (cells_of ss)
  pub temporaries : (s z : EarlySlot) → IsListed s ss → IsListed z ss → s.cell ≢ z.temporary
  pub apart : AllApart x block start ss ps
  pub each : AllMayCopy x c a block start m w ss ps

-- ---- homes of what was copied

-- The live block has room from the place on, apart from all others. What it holds at its home stands there, too.
pub record IsCopiedTo (rights target : Rights) (homes : List Home) (m n : List MemoryBlock) (p : Place)
    (x : MemoryBlock) : Type 0 where
  pub room : HasRoom rights target n (home_at p) p.block x
  pub apart : IsApartFrom rights homes m (home_at p) p.block x
  pub same : (z : MemoryBlock) → slice_get n (home_of homes p.block).block ≡ Some z → (i : ℕ) → i < x.size
      → byte_of room.block (p.offset + i) ≡ byte_of z ((home_of homes p.block).offset + i)

-- No pointer is about into the block, and it was copied to the place, if it is live.
pub record MayComeThere (rights target : Rights) (homes : List Home) (m n : List MemoryBlock) (p : Place) : Type 0
  where
    pub known : p.block < length homes
    pub unseen : (home_of homes p.block).is_seen ≡ false
    pub seen : MayBeSeen rights target n (home_at p) p.block (slice_get m p.block)
    pub copied : (x : MemoryBlock) → slice_get m p.block ≡ Some x → is_live x.life ≡ true
        → IsCopiedTo rights target homes m n p x
