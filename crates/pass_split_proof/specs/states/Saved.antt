-- A save: what the parts' run has written into the frame behind it.
use Rattle.std.specs.Prelude.{◌≡◌, ℕ, ◌+◌, Bool, List, Option, length, slice_set}
use Rattle.pass_proofs.specs.ir_paths.declared.point.Point.{Point}
use Rattle.pass_split_proof.specs.states.Instances.{AreFrames, in_state, index_length}
use Rattle.pass_split_proof.specs.states.Memories.{AreBeside}
use Rattle.pass_proofs.specs.run_framed.Framed.{FramedGiven, layout_of}
use Rattle.pass_proofs.specs.run_laws.access.Lines.{Holds, refilled_at}
use Rattle.pass_proofs.specs.run_memory.Memory.{digits, encode, owner_rights}
use Rattle.pass_proofs.specs.run_memory.declared.block.Byte.{Byte}
use Rattle.pass_proofs.specs.run_memory.declared.block.MemoryBlock.{MemoryBlock}
use Rattle.pass_proofs.specs.run_memory.declared.pointer.Value.{Value}
use Rattle.pass_proofs.specs.run_source.declared.state.Instance.{Instance}
use Rattle.pass_proofs.specs.run_source.declared.state.Saved.{Saved}
use Rattle.pass_proofs.specs.run_source.declared.state.Status.{Status}

-- where the index of an instance lies in its block
abbrev pub index_at : FramedGiven → Instance → ℕ
index_at g x = x.start + (layout_of g.layouts x.coroutine).index

-- the memory with the index of a suspend, and behind that with what a resume calls
abbrev pub with_index : FramedGiven → List MemoryBlock → Instance → ℕ → List MemoryBlock
with_index g n x number = refilled_at n x.block (index_at g x) (digits (index_length g x.coroutine) number)

abbrev pub with_save : FramedGiven → List MemoryBlock → Instance → ℕ → Value → List MemoryBlock
with_save g n x number resumes = refilled_at (with_index g n x number) x.block x.start (encode 8 resumes)

-- The index and the pointer may be stored, one behind the other, and behind them the memories stand beside each other
-- with the instance Suspended.
pub record SavesIn (g : FramedGiven) (instances : List Instance) (i : ℕ) (x : Instance) (m n : List MemoryBlock)
    (number : ℕ)
    (resumes : Value) (suspend : Point) (values : List (Option Value)) (saved : Option Saved)
    (released : Bool) : Type 0 where
  pub old : List Byte
  pub first : Holds owner_rights n x.block (index_at g x) (index_length g x.coroutine) old
  pub long : length old ≡ index_length g x.coroutine
  pub older : List Byte
  pub second : Holds owner_rights (with_index g n x number) x.block x.start 8 older
  pub longer : length older ≡ 8
  pub beside : AreBeside g (slice_set instances i (in_state x (Status.Suspended suspend values) saved released)) m
      (with_save g n x number resumes)
  pub frames : AreFrames g (slice_set instances i (in_state x (Status.Suspended suspend values) saved released)) m
      (with_save g n x number resumes)
