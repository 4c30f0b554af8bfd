-- A coroutine begins in a block of an allocator: what the block is before, and what the parts' run has written
-- behind.
use Rattle.std.specs.Prelude.{◌≡◌, ℕ, ◌≤◌, true, false, List, [], ◌∷◌, ◌++◌, length, is_some}
use Rattle.pass_proofs.specs.pass_intrinsics.declared.shape.Part.{Part}
use Rattle.pass_split_proof.specs.states.Instances.{AreFrames, address_of_part}
use Rattle.pass_split_proof.specs.states.Memories.{AreBeside}
use Rattle.pass_proofs.specs.run_framed.Framed.{FramedGiven}
use Rattle.pass_proofs.specs.run_laws.access.Lines.{Holds, refilled_at}
use Rattle.pass_proofs.specs.run_memory.Memory.{encode, is_live, owner_rights}
use Rattle.pass_proofs.specs.run_memory.declared.block.Byte.{Byte}
use Rattle.pass_proofs.specs.run_memory.declared.block.Kind.{Kind}
use Rattle.pass_proofs.specs.run_memory.declared.block.MemoryBlock.{MemoryBlock}
use Rattle.pass_proofs.specs.run_memory.declared.pointer.Value.{Value}
use Rattle.pass_proofs.specs.run_source.declared.state.Instance.{Instance}
use Rattle.pass_proofs.specs.run_source.declared.state.Status.{Status}

-- a live block of an allocator that nobody owns, with room for a frame
pub record IsFreshBlock (size : ℕ) (u : MemoryBlock) : Type 0 where
  pub live : is_live u.life ≡ true
  pub kind : u.kind ≡ Kind.Allocator
  pub unowned : is_some u.owned ≡ false
  pub room : size ≤ u.size

-- an instance right behind its begin
pub record IsNewInstance (x : Instance) : Type 0 where
  pub start : x.start ≡ 0
  pub slots : x.slots ≡ []
  pub runs : x.status ≡ Status.Running
  pub unfreed : x.freed ≡ false

-- the memory with a header, in which a value stands for what a resume calls and another for what a destroy calls
abbrev pub with_header : List MemoryBlock → ℕ → Value → Value → List MemoryBlock
with_header n block resumes destroys = refilled_at (refilled_at n block 0 (encode 8 resumes)) block 8
    (encode 8 destroys)

-- Both pointers of the header may be stored, one behind the other, and behind them the memories stand beside each
-- other with the new frame among those that there are.
pub record BeginsIn (g : FramedGiven) (instances : List Instance) (x : Instance) (m n : List MemoryBlock)
    (resumes : Value) (destroyer : Part)
    : Type 0 where
  pub old : List Byte
  pub first : Holds owner_rights n x.block 0 8 old
  pub long : length old ≡ 8
  pub older : List Byte
  pub second : Holds owner_rights (refilled_at n x.block 0 (encode 8 resumes)) x.block 8 8 older
  pub longer : length older ≡ 8
  pub beside : AreBeside g (instances ++ x ∷ []) m
      (with_header n x.block resumes (address_of_part g x.coroutine destroyer))
  pub frames : AreFrames g (instances ++ x ∷ []) m
      (with_header n x.block resumes (address_of_part g x.coroutine destroyer))
