-- A frame of alignment 8 in a block of alignment 16, and a slot in a field of the frame.
use Rattle.std.specs.Prelude.{ℕ, true, false, [], ◌∷◌, Some, None}
use Rattle.run_laws.specs.run_memory.declared.block.Kind.{Kind}
use Rattle.run_laws.specs.run_memory.declared.block.MemoryBlock.{MemoryBlock}
use Rattle.run_source.specs.declared.state.Instance.{Instance}
use Rattle.run_source.specs.declared.state.Status.{Status}
use Rattle.frame_layout.specs.declared.layout.FieldKind.{FieldKind}
use Rattle.frame_layout.specs.declared.layout.Layout.{Layout}
use Rattle.run_framed.specs.Framed.{FramedGiven}
use Rattle.run_laws.specs.memory.Pointers.{Home}
use Rattle.run_laws.specs.memory.Standing.{blank_block}
use Rattle.run_source_tables.specs.Given.{Given}

-- a block of an allocator whose first n bytes are owned
abbrev pub owned_block : ℕ → ℕ → ℕ → MemoryBlock
owned_block size align n = record (blank_block size align Kind.Allocator) { owned = Some n }

-- 16 bytes of header, an index of one byte, and a slot of eight bytes; the alignment is 8
abbrev pub worked_layout : Layout
worked_layout =
    record {
      coroutine = 0;
      size = 32;
      align = 8;
      index = 16;
      offsets = 16 ∷ 24 ∷ [];
      fields =
          record { kind = FieldKind.Index; name = None; offset = 16; size = 1 }
          ∷ record { kind = FieldKind.Slot; name = None; offset = 24; size = 8 } ∷ [];
    }

abbrev pub frame_given : Given → FramedGiven
frame_given given = record { given = given; layouts = worked_layout ∷ [] }

-- a coroutine that runs, with its frame at the start of block 0
abbrev pub an_instance : Instance
an_instance = record { coroutine = 0; block = 0; start = 0; slots = []; status = Status.Running; last_save = None; released = false; freed = false }

abbrev pub worked_slot : MemoryBlock
worked_slot = blank_block 8 8 Kind.Slot

abbrev pub slot_home : Home
slot_home = record { block = 0; offset = 24; is_seen = true }
