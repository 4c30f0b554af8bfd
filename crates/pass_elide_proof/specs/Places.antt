-- Where the places of a function are in the function that gives its callees frames.
use Rattle.std.specs.Prelude.{◌≡◌, ℕ, zero, suc, List, [], ◌∷◌, length, slice_get, Some, None, Option, ◌+◌}
use Rattle.pass_elide.specs.Elided.{block_frames, function_frames, given_call, frame_allocas, frame_address, frames_by}
use Rattle.pass_elide.specs.declared.given.GivenFrame.{GivenFrame}
use Rattle.pass_proofs.specs.ir_model.Names.{position_of}
use Rattle.pass_proofs.specs.ir_model.declared.instr.Instr.{Instr}
use Rattle.pass_proofs.specs.ir_model.declared.module.Block.{Block}
use Rattle.pass_proofs.specs.ir_model.declared.module.Function.{Function}
use Rattle.pass_proofs.specs.run_laws.access.Lines.{StandAt}
use Rattle.pass_proofs.specs.run_step.Step.{AtInstr, AtTerm, fetch, phis_of}

-- the room of the call at a position of a block, which is counted with the block's phis
abbrev pub Rooms : Type 0
Rooms = ℕ → ℕ → Instr → Option GivenFrame

-- ---- what stands in a block

abbrev pub instrs_in : Option Block → List Instr
instrs_in None = []
instrs_in (Some b) = b.instrs

abbrev pub instrs_of : Function → ℕ → List Instr
instrs_of f block = instrs_in (slice_get f.blocks block)

abbrev pub phi_count : Function → ℕ → ℕ
phi_count f block = length (phis_of (slice_get f.blocks block))

-- ---- how far things move

-- the address of a field is put in front of its call
abbrev pub put_by : Option GivenFrame → ℕ
put_by None = 0
put_by (Some (GivenFrame.Alloca size align)) = 0
put_by (Some (GivenFrame.Field base distance)) = 1

-- so many instructions are put in front of those of a list before a position, and of that at it
abbrev pub put_up_to : (ℕ → Instr → Option GivenFrame) → ℕ → List Instr → ℕ → ℕ
put_up_to room at [] k = 0
put_up_to room at (i ∷ is) zero = put_by (room at i)
put_up_to room at (i ∷ is) (suc k) = put_by (room at i) + put_up_to room (at + 1) is k

-- so many rooms have those before a position
abbrev pub rooms_up_to : (ℕ → Instr → Option GivenFrame) → ℕ → List Instr → ℕ → ℕ
rooms_up_to room at [] k = 0
rooms_up_to room at (i ∷ is) zero = 0
rooms_up_to room at (i ∷ is) (suc k) = length (frames_by (room at i)) + rooms_up_to room (at + 1) is k

abbrev pub rooms_before : Rooms → ℕ → List Block → ℕ → ℕ
rooms_before room block [] k = 0
rooms_before room block (b ∷ bs) zero = 0
rooms_before room block (b ∷ bs) (suc k) = length (block_frames room block b) + rooms_before room (block + 1) bs k

-- the allocas in front of the entry block
abbrev pub allocas_ahead : Rooms → Function → List Instr
allocas_ahead room f = frame_allocas (length f.names) (function_frames room f)

abbrev pub ahead : Rooms → Function → ℕ → ℕ
ahead room f zero = length (allocas_ahead room f)
ahead room f (suc block) = 0

-- ---- places

-- what stands at a position of a block stands here itself
abbrev pub own_at : Rooms → Function → (block at : ℕ) → ℕ
own_at room f block at = ahead room f block + (at + put_up_to (room block) (phi_count f block) (instrs_of f block) at)

-- and here begins what is put in front of it; in front of the first place stands all that is put before
abbrev pub front_at : Rooms → Function → (block at : ℕ) → ℕ
front_at room f block zero = 0
front_at room f block (suc at) = own_at room f block at + 1

-- the new name of the room of the call at a position
abbrev pub name_at : Rooms → Function → (block at : ℕ) → ℕ
name_at room f block at =
    length f.names + (rooms_before room 0 f.blocks block
    + rooms_up_to (room block) (phi_count f block) (instrs_of f block) at)

-- the room of what stands at a position
abbrev pub room_at : Rooms → Function → (block at : ℕ) → Instr → Option GivenFrame
room_at room f block at i = room block (phi_count f block + at) i

-- a call with a room gives its callee a frame
abbrev pub elided_instr : ℕ → Option GivenFrame → Instr → Instr
elided_instr n None i = i
elided_instr n (Some r) i = given_call n i

-- ---- what stands there

-- The second function is the first one with what its calls put in front of them, and with allocas in front.
pub record HasCode (room : Rooms) (f h : Function) : Type 0 where
  pub instr : (block at : ℕ) (i : Instr) → slice_get (instrs_of f block) at ≡ Some i
      → fetch h block (own_at room f block at)
      ≡ AtInstr (elided_instr (name_at room f block at) (room_at room f block at i) i)
  -- right in front of a call stands the address of its field
  pub address : (block at before : ℕ) (i : Instr) (base distance : ℕ) → slice_get (instrs_of f block) at ≡ Some i
      → room_at room f block at i ≡ Some (GivenFrame.Field base distance) → before + 1 ≡ own_at room f block at
      → StandAt h block before (frame_address (name_at room f block at) (GivenFrame.Field base distance))
  pub term : (block : ℕ) (b : Block) → slice_get f.blocks block ≡ Some b
      → fetch h block (own_at room f block (length b.instrs)) ≡ AtTerm b.term
  pub allocas : (b : Block) → slice_get f.blocks 0 ≡ Some b → StandAt h 0 0 (allocas_ahead room f)
  pub labels : (label : ℕ) → position_of h label ≡ position_of f label
  pub phis : (block : ℕ) → phis_of (slice_get h.blocks block) ≡ phis_of (slice_get f.blocks block)
