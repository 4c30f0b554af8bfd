-- A store into a slot, which the target makes in a field of the frame by another name; and one into a slot that comes
-- to stand there.
use Rattle.std.specs.Prelude.{ℕ, Bool, false, List, [], ◌∷◌, pos, Some, None, ◌==◌}
use Rattle.run_laws.specs.run_memory.Memory.{digits, owner_rights}
use Rattle.run_laws.specs.run_memory.Pointers.{offset_of}
use Rattle.run_laws.specs.run_memory.declared.block.MemoryBlock.{MemoryBlock}
use Rattle.run_laws.specs.run_memory.declared.pointer.Pointer.{Pointer}
use Rattle.run_laws.specs.run_memory.declared.pointer.Value.{Value}
use Rattle.run_laws_worked.specs.Worked.{an_instance, frame_given, owned_block, slot_home, worked_slot}
use Rattle.run_framed.specs.Framed.{frame_rights}
use Rattle.run_laws.specs.ir_model.Ty.{int}
use Rattle.run_laws.specs.ir_model.declared.instr.Instr.{Instr}
use Rattle.run_laws.specs.ir_model.declared.module.Function.{Function}
use Rattle.run_laws.specs.ir_model.declared.module.Module.{Module}
use Rattle.run_laws.specs.ir_model.declared.operand.Operand.{Operand}
use Rattle.run_laws.specs.memory.Pointers.{Home}
use Rattle.run_laws.specs.run_step.Step.{AtInstr, Context, Fetched, Work}
use Rattle.run_laws.specs.run_step.declared.world.World.{World}
use Rattle.run_source_tables.specs.Given.{Given}
use Rattle.run_laws.specs.embedded.Making.{whole_home}
use Rattle.run_laws.specs.transfer.Ready.{Place}

-- the block of the frame, and the slot
abbrev pub worked_source : List MemoryBlock
worked_source = owned_block 48 16 32 ∷ worked_slot ∷ []

abbrev pub worked_target : List MemoryBlock
worked_target = owned_block 48 16 32 ∷ []

abbrev pub worked_homes : List Home
worked_homes = whole_home 0 ∷ slot_home ∷ []

abbrev pub worked_world : List MemoryBlock → World
worked_world memory = record { memory = memory; events = []; answers_used = 0; allocs = 0 }

abbrev pub pointer_at : ℕ → ℕ → Value
pointer_at b o = Value.Ptr (Pointer.At b (offset_of o))

-- name 0 has the slot's address in the source, and no value in the target; there name 1 has the field's
abbrev pub slot_work : Work
slot_work = record { world = worked_world worked_source; values = Some (pointer_at 1 0) ∷ None ∷ [] }

abbrev pub field_work : Work
field_work = record { world = worked_world worked_target; values = None ∷ Some (pointer_at 0 24) ∷ [] }

abbrev pub slot_context : Module → Function → Context
slot_context m f = record { code = m; answers = []; rights = owner_rights; function = f }

abbrev pub field_context : Given → Module → Function → Context
field_context given m f = record {
  code = m;
  answers = [];
  rights = frame_rights (frame_given given)
      (an_instance ∷ []);
  function = f;
}

-- store i64 7, by the address that a name has
abbrev pub store_by : ℕ → Fetched
store_by name = AtInstr (Instr.Store (record { ty = int 64; value = Operand.Number (pos 7) }) (Operand.Local name) 8)

-- the slot holds the number
abbrev pub stored_source : List MemoryBlock
stored_source = owned_block 48 16 32 ∷ record worked_slot { bytes = digits 8 7 } ∷ []

-- ---- a slot that doesn't stand there yet, because nobody has used it

abbrev pub hidden_homes : List Home
hidden_homes = whole_home 0 ∷ record { block = 7; offset = 0; is_seen = false } ∷ []

abbrev pub hidden_slot : ℕ → Bool
hidden_slot b = b == 1

abbrev pub slot_place : Place
slot_place = record { block = 1; target = 0; offset = 24 }
