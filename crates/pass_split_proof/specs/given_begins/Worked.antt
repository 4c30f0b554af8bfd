-- Frames that begin where they were given room: in a stack block, there again, and in a field of another frame.
use Rattle.std.specs.Prelude.{List, [], ◌∷◌, Some, None}
use Rattle.pass_proofs.specs.frame_layout.declared.layout.FieldKind.{FieldKind}
use Rattle.pass_proofs.specs.frame_layout.declared.layout.Layout.{Layout}
use Rattle.pass_proofs.specs.pass_intrinsics.declared.shape.Part.{Part}
use Rattle.pass_split_proof.specs.given_begins.Room.{with_header_at}
use Rattle.pass_split_proof.specs.states.Instances.{address_of_part}
use Rattle.pass_proofs.specs.run_framed.Framed.{FramedGiven}
use Rattle.pass_proofs.specs.run_laws.memory.Standing.{blank_block}
use Rattle.run_access_worked.specs.run_laws_worked.Worked.{an_instance, frame_given, owned_block, worked_layout}
use Rattle.pass_proofs.specs.run_memory.declared.block.Kind.{Kind}
use Rattle.pass_proofs.specs.run_memory.declared.block.MemoryBlock.{MemoryBlock}
use Rattle.pass_proofs.specs.run_memory.declared.pointer.Value.{Value}
use Rattle.pass_proofs.specs.run_source.declared.state.Instance.{Instance}
use Rattle.pass_proofs.specs.run_source.declared.state.Status.{Status}
use Rattle.pass_proofs.specs.run_source_tables.Given.{Given}

-- ---- in a stack block

-- the block that a caller gives, and in the framed run once an instance owns it
abbrev pub a_stack_block : MemoryBlock
a_stack_block = blank_block 32 8 Kind.Stack

abbrev pub an_owned_stack_block : MemoryBlock
an_owned_stack_block = record a_stack_block { owned = Some 32 }

-- an instance that is over
abbrev pub an_older : Instance
an_older = record an_instance { status = Status.Finished }

-- the memory of the parts' run behind the first begin
abbrev pub begun_in_stack : Given → (resumes : Value) → Part → List MemoryBlock
begun_in_stack given resumes destroyer = with_header_at (a_stack_block ∷ []) 0 0 resumes
    (address_of_part (frame_given given) 0 destroyer)

-- ---- in a field

-- 16 bytes of header, an index of one byte, and a field for the frame of the coroutine 0
abbrev pub a_callers_layout : Layout
a_callers_layout =
    record {
      coroutine = 1;
      size = 64;
      align = 8;
      index = 16;
      offsets = 16 ∷ 24 ∷ [];
      fields =
          record { kind = FieldKind.Index; name = None; offset = 16; size = 1 }
          ∷ record { kind = FieldKind.Frame; name = None; offset = 24; size = 32 } ∷ [];
    }

abbrev pub nested_given : Given → FramedGiven
nested_given given = record { given = given; layouts = a_callers_layout ∷ worked_layout ∷ [] }

-- the caller's instance, and the one in its field
abbrev pub a_caller : Instance
a_caller = record an_instance { coroutine = 1 }

abbrev pub a_callee : Instance
a_callee = record an_instance { start = 24 }

abbrev pub callers_memory : List MemoryBlock
callers_memory = owned_block 64 16 64 ∷ []

-- the memory of the parts' run behind the caller's begin
abbrev pub callers_begun : Given → (resumes : Value) → Part → List MemoryBlock
callers_begun given resumes destroyer = with_header_at (blank_block 64 16 Kind.Allocator ∷ []) 0 0 resumes
    (address_of_part (nested_given given) 1 destroyer)
