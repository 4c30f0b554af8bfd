-- The memory of a framed run and that of the run of its parts: block by block, each at its own number.
use Rattle.std.specs.Prelude.{◌≡◌, ℕ, false, List, length, slice_get, None, Some, Option, ◌<◌, ◌^◌}
use Rattle.pass_proofs.specs.ir_model.declared.module.Module.{Module}
use Rattle.pass_proofs.specs.run_framed.Framed.{FramedGiven, frame_rights}
use Rattle.pass_proofs.specs.run_laws.memory.Pointers.{Home}
use Rattle.pass_proofs.specs.run_laws.memory.Standing.{AreOffsets, Embeds, byte_of, own_homes}
use Rattle.pass_proofs.specs.run_memory.Memory.{is_killed, owner_rights}
use Rattle.pass_proofs.specs.run_memory.declared.block.Kind.{Kind}
use Rattle.pass_proofs.specs.run_memory.declared.block.Life.{Life}
use Rattle.pass_proofs.specs.run_memory.declared.block.MemoryBlock.{MemoryBlock}
use Rattle.pass_proofs.specs.run_source.declared.state.Instance.{Instance}
use Rattle.pass_proofs.specs.run_step.Step.{first_world}
use Rattle.pass_proofs.specs.run_step.declared.world.World.{World}

-- a slot of a coroutine is a stack block of its part
abbrev pub plain_kind : Kind → Kind
plain_kind Kind.Allocator = Kind.Allocator
plain_kind Kind.Stack = Kind.Stack
plain_kind Kind.Slot = Kind.Stack
plain_kind Kind.Global = Kind.Global
plain_kind Kind.Constant = Kind.Constant

-- A block that has ended in the framed run may live in the parts' run: a part has no markers of a slot whose markers
-- stand before the suspend.
abbrev pub LivesAs : Life → Life → Type 0
LivesAs Life.Live l = l ≡ Life.Live
LivesAs Life.Ended l = is_killed l ≡ false
LivesAs Life.Killed l = l ≡ Life.Killed

-- The second is the block of the parts' run: it is as the first but for its kind, its owner, which it hasn't, its life
-- where the first has ended, and what its bytes hold. What an allocator gives is aligned to 16.
pub record IsTwin (x y : MemoryBlock) : Type 0 where
  pub is : y ≡ record x { kind = plain_kind x.kind; life = y.life; owned = None; bytes = y.bytes }
  pub life : LivesAs x.life y.life
  pub long : length y.bytes ≡ length x.bytes
  pub full : is_killed x.life ≡ false → length x.bytes ≡ x.size
  pub small : x.size < 2 ^ 64
  pub sixteen : x.kind ≡ Kind.Allocator → x.align ≡ 16

abbrev pub AreTwinsAt : Option MemoryBlock → Option MemoryBlock → Type 0
AreTwinsAt None None = Unit {0}
AreTwinsAt None (Some y) = ⊥
AreTwinsAt (Some x) None = ⊥
AreTwinsAt (Some x) (Some y) = IsTwin x y

-- block by block
pub record AreTwins (m n : List MemoryBlock) : Type 0 where
  pub each : (b : ℕ) → AreTwinsAt (slice_get m b) (slice_get n b)
  pub long : length n ≡ length m

-- each block of the first has its own number in the second, and pointers to it may be about
abbrev pub homes_of : List MemoryBlock → List Home
homes_of m = own_homes 0 (length m)

-- the framed run's memory stands in that of the parts' run: what frames leave open in the one is the same in the
-- other
pub record AreBeside (g : FramedGiven) (instances : List Instance) (m n : List MemoryBlock) : Type 0 where
  pub twins : AreTwins m n
  pub stands : Embeds (frame_rights g instances) owner_rights (homes_of m) m n

-- and both have seen the same
pub record AreWorldsBeside (g : FramedGiven) (instances : List Instance) (s t : World) : Type 0 where
  pub memory : AreBeside g instances s.memory t.memory
  pub events : t.events ≡ s.events
  pub answers : t.answers_used ≡ s.answers_used
  pub allocs : t.allocs ≡ s.allocs

-- ---- the start

-- what a run's globals hold is small, and numbers and addresses of globals
pub record AreContents (m : Module) : Type 0 where
  pub small : (b : ℕ) (x : MemoryBlock) → slice_get (first_world m).memory b ≡ Some x → x.size < 2 ^ 64
  pub known : (b i : ℕ) (x : MemoryBlock) → slice_get (first_world m).memory b ≡ Some x
      → AreOffsets (length (first_world m).memory) (byte_of x i)
