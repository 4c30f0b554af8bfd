-- A frame begins where a caller gave it room: in a stack block, or in a field of the caller's own frame.
use Rattle.std.specs.Prelude.{◌≡◌, ℕ, ◌+◌, ◌-◌, ◌<◌, true, false, List, [], ◌∷◌, ◌++◌, length, slice_get, Some, is_some}
use Rattle.std.specs.List.{list_any}
use Rattle.pass_proofs.specs.pass_intrinsics.declared.shape.Part.{Part}
use Rattle.pass_split_proof.specs.states.Instances.{AreFrames, IsControl, IsLaidOut, LiesAligned, address_of_part, is_given_in, is_held}
use Rattle.pass_split_proof.specs.states.Memories.{AreBeside, homes_of}
use Rattle.pass_proofs.specs.run_framed.Framed.{FramedGiven, covers, field_opens, frame_rights, judge_of, layout_of}
use Rattle.pass_proofs.specs.run_laws.access.Lines.{Holds, refilled_at}
use Rattle.pass_proofs.specs.run_laws.memory.Pointers.{IsByte}
use Rattle.pass_proofs.specs.run_laws.memory.Standing.{IsOpen, byte_of}
use Rattle.pass_proofs.specs.run_memory.Memory.{encode, is_live, owner_rights, same_kind}
use Rattle.pass_proofs.specs.run_memory.declared.block.Byte.{Byte}
use Rattle.pass_proofs.specs.run_memory.declared.block.Kind.{Kind}
use Rattle.pass_proofs.specs.run_memory.declared.block.MemoryBlock.{MemoryBlock}
use Rattle.pass_proofs.specs.run_memory.declared.pointer.Value.{Value}
use Rattle.pass_proofs.specs.run_source.declared.state.Instance.{Instance}
use Rattle.pass_proofs.specs.run_source.declared.state.Status.{Status}

-- ---- owners

-- a block becomes another only in its owner
abbrev pub ChangesOwner : (MemoryBlock → MemoryBlock) → Type 0
ChangesOwner f = (y : MemoryBlock) → f y ≡ record y { owned = (f y).owned }

-- ---- the new frame

-- an instance right behind its begin, wherever its frame lies
pub record IsBegun (x : Instance) : Type 0 where
  pub slots : x.slots ≡ []
  pub runs : x.status ≡ Status.Running
  pub unfreed : x.freed ≡ false

-- the byte is in no open field of the frame, and no control byte of it
pub record IsSpare (g : FramedGiven) (x : Instance) (at : ℕ) : Type 0 where
  pub shut : list_any (field_opens (at - x.start)) (layout_of g.layouts x.coroutine).fields ≡ false
  pub free : IsControl g x x.block at → ⊥

-- The frame lies in a live block as it is aligned. Control bytes of frames that are there are spare in it. What is open
-- in it from now on stands.
pub record HasRoom (g : FramedGiven) (xs : List Instance) (x : Instance) (m n : List MemoryBlock) : Type 0 where
  pub block : MemoryBlock
  pub there : slice_get m x.block ≡ Some block
  pub live : is_live block.life ≡ true
  pub writable : same_kind block.kind Kind.Constant ≡ false
  pub owned : block.kind ≡ Kind.Allocator → is_some block.owned ≡ true
  pub given : is_given_in (slice_get m x.block) x ≡ true
  pub lies : LiesAligned g x block
  pub clear : (i : ℕ) (z : Instance) (at : ℕ) → slice_get xs i ≡ Some z → is_held m z ≡ true
      → IsControl g z x.block at → covers g x.block at x ≡ true → IsSpare g x at
  pub opened : (at : ℕ) (v : MemoryBlock) → slice_get n x.block ≡ Some v → at < block.size
      → covers g x.block at x ≡ true → IsOpen (frame_rights g (xs ++ x ∷ [])) x.block block at
      → IsByte (homes_of m) (byte_of block at) (byte_of v at)

-- the memory with a header at an offset of a block
abbrev pub with_header_at : List MemoryBlock → (block start : ℕ) → (resumes destroys : Value) → List MemoryBlock
with_header_at n block start resumes destroys = refilled_at (refilled_at n block start (encode 8 resumes)) block (start + 8)
    (encode 8 destroys)

-- Both pointers of the header may be stored, one behind the other, and behind them the memories stand beside each
-- other with the new frame among those that there are.
pub record BeginsAt (g : FramedGiven) (xs : List Instance) (x : Instance) (m n : List MemoryBlock) (resumes : Value)
    (destroyer : Part) : Type 0 where
  pub old : List Byte
  pub first : Holds owner_rights n x.block x.start 8 old
  pub long : length old ≡ 8
  pub older : List Byte
  pub second : Holds owner_rights (refilled_at n x.block x.start (encode 8 resumes)) x.block (x.start + 8) 8 older
  pub longer : length older ≡ 8
  pub beside : AreBeside g (xs ++ x ∷ []) m
      (with_header_at n x.block x.start resumes (address_of_part g x.coroutine destroyer))
  pub frames : AreFrames g (xs ++ x ∷ []) m
      (with_header_at n x.block x.start resumes (address_of_part g x.coroutine destroyer))

-- ---- what other frames leave

-- no control byte of the second frame lies in the first
abbrev pub IsAround : FramedGiven → (x z : Instance) → Type 0
IsAround g x z = (at : ℕ) → IsControl g z x.block at → covers g x.block at x ≡ true → ⊥

-- What an earlier frame of a block leaves to one that begins there. It began at the same place, for the same coroutine,
-- and is there no more. Or what is of both is spare in the new one. Or it has the new one in a field.
pub data LeavesRoom (g : FramedGiven) (m : List MemoryBlock) (x z : Instance) : Type 0 where
  Reused : z.start ≡ x.start → z.coroutine ≡ x.coroutine → is_held m z ≡ false → LeavesRoom g m x z
  Apart : ((at : ℕ) → covers g x.block at z ≡ true → covers g x.block at x ≡ true → IsSpare g x at)
      → LeavesRoom g m x z
  Around : IsAround g x z → LeavesRoom g m x z

-- The place of a frame that begins: a live block, in which it lies as it is aligned and each earlier frame leaves it
-- room. Where a frame around it judged, the bytes stand.
pub record IsPlaceFor (g : FramedGiven) (xs : List Instance) (x : Instance) (m n : List MemoryBlock) : Type 0 where
  pub block : MemoryBlock
  pub there : slice_get m x.block ≡ Some block
  pub live : is_live block.life ≡ true
  pub writable : same_kind block.kind Kind.Constant ≡ false
  pub owned : block.kind ≡ Kind.Allocator → is_some block.owned ≡ true
  pub given : is_given_in (slice_get m x.block) x ≡ true
  pub lies : LiesAligned g x block
  pub laid : (i : ℕ) (z : Instance) → slice_get xs i ≡ Some z → IsLaidOut g z.coroutine
  pub leave : (i : ℕ) (z : Instance) → slice_get xs i ≡ Some z → z.block ≡ x.block → LeavesRoom g m x z
  pub stand : (at i : ℕ) (z : Instance) (v : MemoryBlock) → judge_of g xs x.block at ≡ Some (i, z) → IsAround g x z
      → slice_get n x.block ≡ Some v → at < block.size → covers g x.block at x ≡ true
      → IsByte (homes_of m) (byte_of block at) (byte_of v at)
